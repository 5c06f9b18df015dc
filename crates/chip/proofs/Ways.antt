-- What each way through a call of a chip has to show, for every implementation.
pub use Rattle.chip.specs.Pages.{Answer}
use Rattle.std.proofs.Common.{◌≡◌, ℕ, ◌+◌, ◌*◌, ◌/◌, ◌%◌, ◌<◌, ◌≤◌, true, false, List, [], ◌++◌, length, get_or, take, drop, set, replicate, Ok, Err, Result, ap, ⊎_elim, refl, arith}
use Rattle.std.proofs.Math.Nat.{div-lt_iff_lt-mul}
use Rattle.std.proofs.lemmas.Bool.{le-ltb, lt-ltb, eq-eqb, ne_eqb, cases_lt, cases_eq}
use Rattle.chip.specs.declared.ChipFault.{ChipFault}
use Rattle.chip.specs.declared.ChipFault.TheVariants.{OutOfRange, BufferLength, NotErased}
use Rattle.chip.specs.Pages.{Page, is_erased, block_answer, place_answer, buffer_read, program_answer, pages_programmed, pages_erased, erased_page}

-- A block was found.
pub block_found : (blocks b i : ℕ) → Ok i ≡ block_answer blocks b → (b < blocks) × (i ≡ b)
block_found blocks b i e =
    ⊎_elim (λ h. (h, let f : Ok i ≡ Ok b = rw (lt-ltb b blocks h) at e in cc)) (λ h. absurd (let f : ◌≡◌ {A = Result ℕ ChipFault} (Ok i) (Err OutOfRange) = rw (le-ltb b blocks h) at e in cc)) (cases_lt b blocks)

-- A page is there where its block is.
module _ (per blocks : ℕ) (pages : List Page) (least : 2 ≤ per) (whole : length pages ≡ blocks * per) (p n b i : ℕ) (found : Ok i ≡ block_answer blocks b) (is : b ≡ p / per) where
  inside : p < length pages
  inside =
      let below : p / per < blocks = omega (arith, (block_found blocks b i found).0) in
      rw whole ((div-lt_iff_lt-mul {k = per} {x = p} {y = blocks} (omega arith)).0 below)

  pub place_length : (n ≡ 528 → ⊥) → Err BufferLength ≡ place_answer pages p per n
  place_length d = rw (lt-ltb p (length pages) inside, ne_eqb n 528 d) refl

  pub place_found : n ≡ 528 → (place : ℕ) → place ≡ p % per → Ok (i, place) ≡ place_answer pages p per n
  place_found e place at =
      rw (lt-ltb p (length pages) inside, eq-eqb n 528 e) (let f = (block_found blocks b i found).1 in cc)

-- A page was found at a place of a block, for a call with n bytes.
pub record Found (per : ℕ) (pages : List Page) (p n block place : ℕ) : Type 0 where
  pub inside : p < length pages
  pub whole : n ≡ 528
  pub in_block : block ≡ p / per
  pub at : place ≡ p % per

pub page_found : (per : ℕ) (pages : List Page) (p n block place : ℕ) → Ok (block, place) ≡ place_answer pages p per n → Found per pages p n block place
page_found per pages p n block place e = ⊎_elim in_range (λ h. absurd (lacking h)) (cases_lt p (length pages))
  where
    lacking : length pages ≤ p → ⊥
    lacking h = let f : ◌≡◌ {A = Result (ℕ × ℕ) ChipFault} (Ok (block, place)) (Err OutOfRange) = rw (le-ltb p (length pages) h) at e in cc

    other : p < length pages → (n ≡ 528 → ⊥) → ⊥
    other h d =
        let f : ◌≡◌ {A = Result (ℕ × ℕ) ChipFault} (Ok (block, place)) (Err BufferLength) = rw (lt-ltb p (length pages) h, ne_eqb n 528 d) at e in
        cc

    granted : p < length pages → n ≡ 528 → Found per pages p n block place
    granted h l =
        let f : ◌≡◌ {A = Result (ℕ × ℕ) ChipFault} (Ok (block, place)) (Ok (p / per, p % per)) = rw (lt-ltb p (length pages) h, eq-eqb n 528 l) at e in
        let g : ◌≡◌ {A = ℕ × ℕ} (block, place) (p / per, p % per) = cc in
        record { inside = h; whole = l; in_block = ap (λ z. z.0) g; at = ap (λ z. z.1) g }

    in_range : p < length pages → Found per pages p n block place
    in_range h = ⊎_elim (granted h) (λ d. absurd (other h d)) (cases_eq n 528)

module _ (pages : List Page) (p : ℕ) (given : List ℕ) (h : p < length pages) (n : length given ≡ 528) where
  pub read_granted : buffer_read pages p given ≡ get_or pages p []
  read_granted = rw (lt-ltb p (length pages) h, eq-eqb (length given) 528 n) refl

  abbrev pub Programmed : Answer → List Page → Type 0
  Programmed r after = (r ≡ program_answer pages p (length given)) × (after ≡ pages_programmed pages p given)

  pub program_not_erased : is_erased (get_or pages p []) ≡ false → Programmed (Err NotErased) pages
  program_not_erased g = let e = lt-ltb p (length pages) h in let f = eq-eqb (length given) 528 n in (rw (e, f, g) refl, rw (e, f, g) refl)

  pub program_granted : is_erased (get_or pages p []) ≡ true → (after : List Page) → after ≡ set pages p given → Programmed (Ok tt) after
  program_granted g after a = let e = lt-ltb p (length pages) h in let f = eq-eqb (length given) 528 n in (rw (e, f, g) refl, rw (e, f, g) a)

pub erase_granted : (per blocks : ℕ) (pages : List Page) (b : ℕ) → b < blocks → pages_erased per blocks pages b ≡ take (b * per) pages ++ (replicate per erased_page ++ drop (b * per + per) pages)
erase_granted per blocks pages b h = rw (lt-ltb b blocks h) refl
