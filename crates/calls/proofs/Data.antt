-- What the page of a version holds.
use Rattle.std.proofs.Common.{◌≡◌, ℕ, ◌<◌, Bool, true, false, cond, List, [], ◌∷◌, length, get_or, take, Some, None, Option, sym, refl, ap, ◌∙◌, subst, arith}
use mathlib.Core.Option as opt
use Rattle.std.proofs.lemmas.Bool.{both_ways}
use Rattle.chip.specs.declared.PageNumber.{PageNumber}
use Rattle.chip.specs.Pages.{Page}
use Rattle.layout.specs.Page.{Meaning, Erased, Data, Deletion, Register as Sheet, Bad, meaning}
use Rattle.readings.specs.Versions.{Content, bytes, deleted, Version}
use Rattle.readings.specs.Sayings.{Saying, nothing, version, register, bad, heard, said}
use Rattle.tables.specs.declared.index.Index.{Index}
use Rattle.tables.specs.Records.{unused, kind_of, Agrees}
use Rattle.keeping.specs.Opened.{Opened}
use Rattle.noting.specs.Lookups.{Shows}
use Rattle.rules.specs.Calls.{granted, shown, born_at, read_answer}
use Rattle.rules.specs.Told.{holding_value, since_value}
use Rattle.calls.specs.Holds.{is_data, data_page, HasData, HasNone, Holds, fetched, Fills, born_of}

content_bytes : Content → List ℕ
content_bytes (bytes bs) = bs
content_bytes deleted = []

said_bytes : Saying → List ℕ
said_bytes nothing = []
said_bytes (version v) = content_bytes v.content
said_bytes (register r) = []
said_bytes (bad cause) = []

said_data : Saying → Bool
said_data nothing = false
said_data (version v) = is_data (kind_of v.content)
said_data (register r) = false
said_data (bad cause) = false

-- The bytes of a version are those of its page.
heard_bytes : (m : Meaning) (p : Page) (s b : ℕ) (bs : List ℕ) → heard m p ≡ version (record { sector = s; birth = b; content = bytes bs }) → bs ≡ take 512 p
unfolding said_bytes content_bytes said_data
heard_bytes Erased p s b bs e = let z : ◌≡◌ {A = ℕ} 0 1 = cc in absurd (omega arith)
heard_bytes (Data s₁ b₁) p s b bs e = ap said_bytes (sym e)
heard_bytes (Deletion s₁ b₁) p s b bs e = absurd (both_ways false refl (ap said_data e))
heard_bytes (Sheet b₁ held label) p s b bs e = let z : ◌≡◌ {A = ℕ} 0 1 = cc in absurd (omega arith)
heard_bytes (Bad cause) p s b bs e = let z : ◌≡◌ {A = ℕ} 0 1 = cc in absurd (omega arith)

said_bytes_lem : (p : Page) (s b : ℕ) (bs : List ℕ) → said p ≡ version (record { sector = s; birth = b; content = bytes bs }) → bs ≡ take 512 p
unfolding said
said_bytes_lem p s b bs e = heard_bytes (meaning p) p s b bs e

module _ (blocks per : ℕ) (pages : List Page) (ix : Index) (o : Opened blocks per pages ix) where
  -- The record of a version.
  agrees : (k : ℕ) (v : Version) → k < length pages → said (get_or pages k []) ≡ version v → Agrees (version v) (get_or ix.records k unused)
  agrees k v h e = subst (λ (x : Saying). Agrees x (get_or ix.records k unused)) e (o.tells.agree k h)

  -- A page by its kind: data.
  data_held : (p : PageNumber) (w : opt.Option Version) → Shows pages (Some p) w → is_data (get_or ix.records p.0 unused).kind ≡ true → HasData pages ix w p.0
  data_held p w h k =
      go h.0.sector h.0.birth h.0.content h.1 h.2 h.3
    where
      go : (s b : ℕ) (c : Content) → w ≡ opt.some (record { sector = s; birth = b; content = c }) → p.0 < length pages →
          said (get_or pages p.0 []) ≡ version (record { sector = s; birth = b; content = c }) → HasData pages ix w p.0
      go s b (bytes bs) e i y =
          record {
            inside = i;
            shows = ap shown e ∙ ap opt.some (said_bytes_lem _ s b bs y);
            born = ap born_at e ∙ ap (λ n. n ∷ []) (sym (agrees p.0 _ i y).2);
          }
      go s b deleted e i y = absurd (both_ways _ (ap is_data (agrees p.0 _ i y).0) k)

  -- A page by its kind: no data.
  none_held : (p : PageNumber) (w : opt.Option Version) → Shows pages (Some p) w → is_data (get_or ix.records p.0 unused).kind ≡ false → HasNone w
  none_held p w h k =
      go h.0.sector h.0.birth h.0.content h.1 h.2 h.3
    where
      go : (s b : ℕ) (c : Content) → w ≡ opt.some (record { sector = s; birth = b; content = c }) → p.0 < length pages →
          said (get_or pages p.0 []) ≡ version (record { sector = s; birth = b; content = c }) → HasNone w
      go s b (bytes bs) e i y = absurd (both_ways _ k (ap is_data (agrees p.0 _ i y).0))
      go s b deleted e i y = record { shows = ap shown e; born = ap born_at e }

none_there : (pages : List Page) (w : opt.Option Version) → Shows pages None w → HasNone w
none_there pages w e = record { shows = ap shown e; born = ap born_at e }

-- A found page holds what its version shows.
pub holds_data : (blocks per : ℕ) (pages : List Page) (ix : Index) → Opened blocks per pages ix → (p : Option PageNumber) (w : opt.Option Version) → Shows pages p w → Holds pages ix w (data_page ix p)
holds_data blocks per pages ix o None w h = none_there pages w h
holds_data blocks per pages ix o (Some p) w h = go (is_data (get_or ix.records p.0 unused).kind) refl
  where
    go : (b : Bool) → is_data (get_or ix.records p.0 unused).kind ≡ b → Holds pages ix w (cond b (Some p) None)
    go true e = data_held blocks per pages ix o p w h e
    go false e = none_held blocks per pages ix o p w h e

-- What a read answers, by the page with the data.
pub read_answer_lem : (pages : List Page) (ix : Index) (w : opt.Option Version) (p : Option PageNumber) (buffer : List ℕ) → Holds pages ix w p → Fills pages p buffer →
    granted (holding_value (fetched p)) buffer ≡ read_answer (shown w)
read_answer_lem pages ix w None buffer h f = ap (granted (0 ∷ [])) f ∙ ap read_answer (sym h.shows)
read_answer_lem pages ix w (Some p) buffer h f = ap (granted (1 ∷ [])) (f h.inside) ∙ ap read_answer (sym h.shows)

-- And what a since answers.
pub since_answer : (pages : List Page) (ix : Index) (w : opt.Option Version) (p : Option PageNumber) → Holds pages ix w p → since_value (born_of ix p) ≡ born_at w
since_answer pages ix w None h = sym h.born
since_answer pages ix w (Some p) h = sym h.born
