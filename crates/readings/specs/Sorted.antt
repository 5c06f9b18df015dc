-- What the pages of a chip read as: pages in any order, with or without what is needed no more, and some of them more than once.
use Rattle.std.specs.Prelude.{◌≡◌, ℕ, suc, ◌≤◌, Bool, true, ◌⊎◌, List, [], ◌∷◌, nat_le}
use Prim.Native.Nat.{compare, Ordering}
use Rattle.readings.specs.Versions.{Content, Version, keep, has, needed, settle, Reading, add, leave}

abbrev pub In : {A : Type 0} → A → List A → Type 0
In v [] = ⊥
In v (w ∷ ws) = (v ≡ w) ⊎ In v ws

-- v goes before the first that is older; one of the same birth is v itself
abbrev pub placed : Ordering → Version → Version → List Version → List Version → List Version
placed Ordering.gt v w ws more = v ∷ w ∷ ws
placed Ordering.eq v w ws more = w ∷ ws
placed Ordering.lt v w ws more = w ∷ more

unfoldable pub insert : Version → List Version → List Version
insert v [] = v ∷ []
insert v (w ∷ ws) = placed (compare v.birth w.birth) v w ws (insert v ws)

-- youngest first
unfoldable pub sort : List Version → List Version
sort [] = []
sort (v ∷ vs) = insert v (sort vs)

unfoldable pub reading_of : List ℕ → ℕ → List ℕ → List Version → Reading
reading_of label clock held pages = record { label = label; clock = clock; held = held; versions = settle held (sort pages) }

-- a birth tells which version it is
abbrev pub Apart : List Version → Type 0
Apart pages = (v w : Version) → In v pages → In w pages → v.birth ≡ w.birth → v ≡ w

abbrev pub Born : ℕ → List Version → Type 0
Born clock pages = (v : Version) → In v pages → v.birth ≤ clock

-- some of the pages, among them each that is needed
abbrev pub Enough : List ℕ → List Version → List Version → Type 0
Enough held pages some_of =
    ((v : Version) → In v some_of → In v pages) × ((v : Version) → In v pages → needed held (sort pages) v ≡ true → In v some_of)

-- Only the needed pages count, and neither their order nor how often one stands there.
abbrev pub NeededSuffice : Type 0
NeededSuffice = (label : List ℕ) (clock : ℕ) (held : List ℕ) (pages some_of : List Version) → Apart pages → Enough held pages some_of →
    reading_of label clock held some_of ≡ reading_of label clock held pages

-- A page with a version born after all others is what a write leaves.
abbrev pub PageAdded : Type 0
PageAdded = (label : List ℕ) (clock : ℕ) (held : List ℕ) (pages : List Version) (s : ℕ) (c : Content) → Born clock pages →
    reading_of label (suc clock) held (record { sector = s; birth = suc clock; content = c } ∷ pages) ≡ add (reading_of label clock held pages) s c

-- The pages born at or before a held number are what a revert leaves, and a back.
abbrev pub PagesCut : Type 0
PagesCut = (label : List ℕ) (clock : ℕ) (held : List ℕ) (pages : List Version) (n : ℕ) (h : ℕ → Bool) → Apart pages → has n held ≡ true → ((m : ℕ) → h m ≡ true → m ≤ n) →
    reading_of label (suc clock) (keep h held) (keep (λ v. nat_le v.birth n) pages) ≡ leave h (λ b. nat_le b n) (reading_of label clock held pages)

-- The same pages are what a release leaves.
abbrev pub PagesReleased : Type 0
PagesReleased = (label : List ℕ) (clock : ℕ) (held : List ℕ) (pages : List Version) (h : ℕ → Bool) →
    reading_of label (suc clock) (keep h held) pages ≡ leave h (λ b. true) (reading_of label clock held pages)

-- And what a freeze leaves.
abbrev pub PagesFrozen : Type 0
PagesFrozen = (label : List ℕ) (clock : ℕ) (held : List ℕ) (pages : List Version) → Born clock pages →
    (reading_of label (suc clock) (suc clock ∷ held) pages).versions ≡ (reading_of label clock held pages).versions

pub record PagesRead : Type 0 where
  pub suffice : NeededSuffice
  pub added : PageAdded
  pub cut : PagesCut
  pub released : PagesReleased
  pub frozen : PagesFrozen
