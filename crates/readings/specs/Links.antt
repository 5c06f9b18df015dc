-- Need as a test of one page's record: its birth, and a link to what replaced it.
use Rattle.std.specs.Prelude.{◌≡◌, ℕ, ◌<◌, ◌≤◌, Bool, true, ◌&&◌, ◌||◌, leb, List, MatchBool, ◌==◌, nat_le, nat_lt}
use Rattle.readings.specs.Versions.{Version, keep, any, has, needed}
use Rattle.readings.specs.Sorted.{In, sort, Apart}

-- No version of v's sector is younger.
abbrev pub IsLast : List Version → Version → Type 0
IsLast vs v = (w : Version) → In w vs → w.sector ≡ v.sector → w.birth ≤ v.birth

-- Versions of v's sector that are younger than v and born at or before h.
abbrev pub Younger : List Version → Version → ℕ → Type 0
Younger vs v h = (w : Version) × In w vs × (w.sector ≡ v.sector) × (v.birth < w.birth) × (w.birth ≤ h)

-- t is where v was replaced: no version of its sector stands between v and t, one stands at t or later, and whoever looks at a held number from t on sees a younger one.
-- (The version born at t may itself be gone, where no held number needs it.)
pub record IsLink (held : List ℕ) (vs : List Version) (v : Version) (t : ℕ) : Type 0 where
  pub later : v.birth < t
  pub none_between : (w : Version) → In w vs → w.sector ≡ v.sector → v.birth < w.birth → t ≤ w.birth
  pub replaced : (w : Version) × In w vs × (w.sector ≡ v.sector) × (t ≤ w.birth)
  pub seen : (h : ℕ) → has h held ≡ true → t ≤ h → Younger vs v h

-- 0 is the link of the youngest of a sector.
abbrev pub Linked : List ℕ → List Version → Version → ℕ → Type 0
Linked held vs v t = MatchBool (t == 0) (IsLast vs v) (IsLink held vs v t)

-- What is to stay: the versions born at or before `limit` that the held numbers need, or the present.
abbrev pub stays_by : List ℕ → ℕ → ℕ → ℕ → Bool
stays_by held limit birth link =
    nat_le birth limit && (link == 0 || (nat_lt limit link || any (λ h. nat_le birth h && nat_lt h link) held))

-- The numbers of `held` are among `all`, and none is above `limit`.
abbrev pub Among : List ℕ → ℕ → List ℕ → Type 0
Among held limit all = (h : ℕ) → has h held ≡ true → (has h all ≡ true) × (h ≤ limit)

-- The limit is a held number, or above all births.
abbrev pub Cuts : ℕ → List ℕ → List Version → Type 0
Cuts limit all vs = ((v : Version) → In v vs → limit < v.birth → has limit all ≡ true)

-- The test of a record is need among the versions up to the limit.
abbrev pub StaysIsNeed : Type 0
StaysIsNeed = (all held : List ℕ) (limit : ℕ) (vs : List Version) (v : Version) (t : ℕ) → Apart vs → In v vs →
    Linked all vs v t → Among held limit all → Cuts limit all vs →
    stays_by held limit v.birth t ≡ (nat_le v.birth limit && needed held (sort (keep (λ w. leb w.birth limit) vs)) v)
