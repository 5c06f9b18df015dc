-- What the records tell of the pages.
use Rattle.std.proofs.Common.{◌≡◌, ℕ, ◌<◌, Bool, true, false, not, ◌&&◌, ltb, leb, List, [], length, get_or, sym, refl, ap, ◌∙◌}
use Rattle.std.proofs.lemmas.Bool.{and_parts, leb-true, le-ltb}
use Rattle.chip.specs.Pages.{Page, is_erased}
use Rattle.readings.specs.Versions.{Content, bytes, deleted}
use Rattle.readings.specs.Sayings.{Saying, nothing, version, register, bad, said}
use Rattle.readings.specs.Reading.{stays}
use Rattle.readings.specs.Mount.{is_nothing}
use Rattle.readings.specs.Links.{stays_by}
use Rattle.tables.specs.declared.index.Index.{Index}
use Rattle.tables.specs.declared.types.Record.{Record}
use Rattle.tables.specs.Records.{unused, kind_of, Agrees}
use Rattle.moving.specs.Sound.{Sound, staying, by_kind, page_stays}
use Rattle.moving.specs.Kept.{stale}
use Rattle.moving.proofs.Says.{said_nothing, nothing_is, stays_said}
use Rattle.room.specs.Choose.{is_free, page_free, page_stale, is_later, page_later}

agree_free : (x : Saying) (r : Record) → Agrees x r → is_free r.kind ≡ is_nothing x
agree_free nothing r a = rw a refl
agree_free (version v) r a = rw a.0 (go v.content)
  where
    go : (c : Content) → is_free (kind_of c) ≡ false
    go (bytes bs) = refl
    go deleted = refl
agree_free (register g) r a = rw a.0 refl
agree_free (bad c) r a = absurd a

agree_later : (limit : ℕ) (x : Saying) (r : Record) → Agrees x r → by_kind r.kind (ltb limit r.birth) false ≡ is_later limit x
agree_later limit nothing r a = rw a refl
agree_later limit (version v) r a = rw (a.0, a.2) (go v.content (ltb limit v.birth))
  where
    go : (c : Content) (x : Bool) → by_kind (kind_of c) x false ≡ x
    go (bytes bs) x = refl
    go deleted x = refl
agree_later limit (register g) r a = rw a.0 refl
agree_later limit (bad c) r a = absurd a

-- What stays was not born after the limit.
pub stays_not_later : (held : List ℕ) (newest limit : ℕ) (link : ℕ → ℕ) (x : Saying) → stays (λ v. stays_by held limit v.birth (link v.birth)) newest x ≡ true → is_later limit x ≡ false
stays_not_later held newest limit link nothing t = refl
stays_not_later held newest limit link (version v) t = le-ltb limit v.birth (leb-true v.birth limit (and_parts (leb v.birth limit) _ t).0)
stays_not_later held newest limit link (register g) t = refl
stays_not_later held newest limit link (bad c) t = refl

module _ (blocks per : ℕ) (pages : List Page) (ix : Index) (link last_birth : ℕ → ℕ) (sound : Sound blocks per pages ix link last_birth) (k : ℕ) (h : k < length pages) where
  pub free_said : page_free ix k ≡ is_nothing (said (get_or pages k []))
  free_said = agree_free (said (get_or pages k [])) (get_or ix.records k unused) (sound.agree k h)

  pub free_erased : page_free ix k ≡ true → is_erased (get_or pages k []) ≡ true
  free_erased t = said_nothing (get_or pages k []) (nothing_is (said (get_or pages k [])) (sym free_said ∙ t))

  pub stale_said : (limit : ℕ) → page_stale ix limit k ≡ stale (staying ix link limit) (said (get_or pages k []))
  stale_said limit =
      ap (λ b. not b && not (page_stays ix limit k)) free_said ∙ ap (λ b. not (is_nothing (said (get_or pages k []))) && not b) (stays_said blocks per pages ix link last_birth sound limit k h)

  pub later_said : (limit : ℕ) → page_later ix limit k ≡ is_later limit (said (get_or pages k []))
  later_said limit = agree_later limit (said (get_or pages k [])) (get_or ix.records k unused) (sound.agree k h)
