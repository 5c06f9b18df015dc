-- What a page says, by its bytes and by its record.
use Rattle.std.proofs.Common.{◌≡◌, ℕ, zero, suc, ◌+◌, ◌*◌, ◌<◌, Bool, true, false, cond, ◌&&◌, eqb, List, [], length, get_or, take, drop, replicate, Some, None, Option, refl, ap, ◌∙◌, subst, inl, inr, arith}
use Rattle.std.proofs.lemmas.Bool.{cases_eq, both_ways}
use Rattle.std.proofs.lemmas.Bool.Decides.{nat_tests}
use Rattle.chip.specs.Pages.{Page, is_erased, erased_page}
use Rattle.limits.specs.Values.{held_of}
use Rattle.limits.specs.Numbers.{rising}
use Rattle.layout.specs.Bytes.{all_zero, u16_at, u32_at, words}
use Rattle.layout.specs.Parts.{end_of, register_kinds, part_at}
use Rattle.layout.specs.Page.{Erased, Data, Deletion, Register as Sheet, Bad, tag_sound, tag_at, go_together, tagged_meaning, register_meaning, register_with_end}
use Rattle.readings.specs.Versions.{Content, bytes, deleted, Version}
use Rattle.readings.specs.Sayings.{Saying, nothing, version, register, bad, heard, said}
use Rattle.readings.specs.Reading.{stays}
use Rattle.readings.specs.Mount.{is_nothing}
use Rattle.readings.specs.Links.{stays_by}
use Rattle.tables.specs.declared.index.Index.{Index}
use Rattle.tables.specs.declared.types.Record.{Record}
use Rattle.tables.specs.Records.{unused, kind_of, Agrees}
use Rattle.moving.specs.Sound.{Shows, Sound, LastStay, staying, by_kind, record_stays, page_stays}

replicate_erased : (n : ℕ) → is_erased (replicate n 255) ≡ true
replicate_erased zero = refl
replicate_erased (suc n) = replicate_erased n

pub erased_page_lem : is_erased erased_page ≡ true
unfolding erased_page
erased_page_lem = replicate_erased 528

pub said_erased : (p : Page) → is_erased p ≡ true → said p ≡ nothing
unfolding said
said_erased p e = rw e refl

pub said_erased_page : said erased_page ≡ nothing
said_erased_page = said_erased erased_page erased_page_lem

-- A programmed page says something.
module _ (p : Page) where
  register_says : (o : Option ℕ) (b : ℕ) → heard (register_with_end o b p) p ≡ nothing → ⊥
  register_says None b e = let z : ◌≡◌ {A = ℕ} 0 1 = cc in omega arith
  register_says (Some end) b e = go (rising 0 b (words (part_at p 0))) (all_zero (drop end (take 512 p))) e
    where
      go : (x y : Bool) → heard (cond x (cond y (Sheet b (words (part_at p 0)) (part_at p 1)) (Bad 34)) (Bad 33)) p ≡ nothing → ⊥
      go true true e = let z : ◌≡◌ {A = ℕ} 0 1 = cc in omega arith
      go true false e = let z : ◌≡◌ {A = ℕ} 0 1 = cc in omega arith
      go false y e = let z : ◌≡◌ {A = ℕ} 0 1 = cc in omega arith

  tagged_says : (t : ℕ × ℕ × ℕ) → eqb t.0 0 ≡ false → heard (tagged_meaning (Some t) p) p ≡ nothing → ⊥
  tagged_says t z e = go (eqb t.0 0) (eqb t.0 1) (eqb t.0 2) (all_zero (take 512 p)) z e
    where
      go : (a b c d : Bool) → a ≡ false → heard (cond a Erased (cond b (Data t.1 t.2) (cond c (cond d (Deletion t.1 t.2) (Bad 31)) (register_meaning t.2 p)))) p ≡ nothing → ⊥
      go true b c d f e = let z : ◌≡◌ {A = ℕ} 0 1 = cc in omega arith
      go false true c d f e = let z : ◌≡◌ {A = ℕ} 0 1 = cc in omega arith
      go false false true true f e = let z : ◌≡◌ {A = ℕ} 0 1 = cc in omega arith
      go false false true false f e = let z : ◌≡◌ {A = ℕ} 0 1 = cc in omega arith
      go false false false d f e = register_says (end_of register_kinds p) t.2 e

  pub said_nothing : said p ≡ nothing → is_erased p ≡ true
  unfolding said
  said_nothing e = go (is_erased p) (tag_sound p) refl e
    where
      sound : (a c : Bool) (k sector birth : ℕ) → (a && (c && go_together k sector birth)) ≡ true → eqb k 0 ≡ false
      sound a c k sector birth h = grind (arith, nat_tests)

      go : (x y : Bool) → tag_sound p ≡ y → heard (tagged_meaning (cond x (Some (0, 0, 0)) (cond y (Some (tag_at p)) None)) p) p ≡ nothing → x ≡ true
      go true y f e = refl
      go false false f e = let z : ◌≡◌ {A = ℕ} 0 1 = cc in absurd (omega arith)
      go false true f e =
          absurd (tagged_says (tag_at p) (sound (eqb (get_or p 513 0) 0) (all_zero (drop 520 p)) (get_or p 512 0) (u16_at p 514) (u32_at p 516) f) e)

pub nothing_is : (x : Saying) → is_nothing x ≡ true → x ≡ nothing
nothing_is nothing e = refl
nothing_is (version v) e = absurd (both_ways false refl e)
nothing_is (register g) e = absurd (both_ways false refl e)
nothing_is (bad c) e = absurd (both_ways false refl e)

-- A record that agrees with what is said decides as what is said does.
pub agree_stays : (held : List ℕ) (newest limit : ℕ) (link : ℕ → ℕ) (x : Saying) (r : Record) → Agrees x r → ((v : Version) → x ≡ version v → r.link ≡ link v.birth) →
    record_stays held newest limit r ≡ stays (λ v. stays_by held limit v.birth (link v.birth)) newest x
agree_stays held newest limit link nothing r a l = rw a refl
agree_stays held newest limit link (version v) r a l = rw (a.0, a.2, l v refl) (go v.content (stays_by held limit v.birth (link v.birth)) (eqb v.birth newest))
  where
    go : (c : Content) (x y : Bool) → by_kind (kind_of c) x y ≡ x
    go (bytes bs) x y = refl
    go deleted x y = refl
agree_stays held newest limit link (register g) r a l = rw (a.0, a.1) refl
agree_stays held newest limit link (bad c) r a l = absurd a

version_agrees : (x : Saying) (v : Version) (r : Record) → Agrees x r → x ≡ version v → r.sector ≡ v.sector
version_agrees x v r a e = let b : Agrees (version v) r = subst (λ y. Agrees y r) e a in b.1

module _ (blocks per : ℕ) (pages : List Page) (ix : Index) (link last_birth : ℕ → ℕ) (sound : Sound blocks per pages ix link last_birth) where
  pub stays_said : (limit k : ℕ) → k < length pages → page_stays ix limit k ≡ staying ix link limit (said (get_or pages k []))
  stays_said limit k h = agree_stays (held_of ix.held) ix.newest limit link (said (get_or pages k [])) (get_or ix.records k unused) (sound.agree k h) (λ v. sound.links k v h)

  pub spare_says : (i : ℕ) → i < per → said (get_or pages (ix.spare.0 * per + i) []) ≡ nothing
  spare_says i l = said_erased (get_or pages (ix.spare.0 * per + i) []) (sound.spare_erased i l)

  module _ (s : ℕ) (h : s < 2048) (inside : get_or ix.map s 0 < length pages) where
    pub sector_born : 0 < last_birth s
    sector_born = elim (cases_eq (last_birth s) 0) [ inl e ↦ let l = sound.unmapped s h e in absurd (omega arith) | inr ne ↦ omega arith ]

    pub shows : Shows pages s (last_birth s) (get_or ix.map s 0)
    shows = sound.mapped s h sector_born

    pub sector_of : (get_or ix.records (get_or ix.map s 0) unused).sector ≡ s
    sector_of =
        let m = get_or ix.map s 0 in
        version_agrees (said (get_or pages m [])) shows.shown (get_or ix.records m unused) (sound.agree m inside) shows.says ∙ shows.of_sector

    pub shown_stays : (limit : ℕ) → LastStay ix link last_birth limit → page_stays ix limit (get_or ix.map s 0) ≡ true
    shown_stays limit last =
        let m = get_or ix.map s 0 in
        stays_said limit m inside ∙ ap (staying ix link limit) shows.says
        ∙ ap (λ b. stays_by (held_of ix.held) limit b (link b)) shows.born ∙ last s h sector_born
