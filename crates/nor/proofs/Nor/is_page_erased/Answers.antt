use Rattle.std.proofs.Common.{rules, tests, ◌≡◌, ℕ, ◌<◌, get_or, refl}
use Rattle.std.proofs.lemmas.Iterator.{cases_from_all, YieldsList-from_range}
use Rattle.nor.specs.Image.{word_at}
use Rattle.nor.proofs.Words.{Asked, asked_ones, asked_erased}
use Rattle.nor.proofs.Nor.is_page_erased.Goals as goal

pub returns : goal.returns
returns c =
    let ws = c.args.self.now.image.now in
    let b = c.args.page.block in
    let p = c.args.page.place in
    let w : ℕ → ℕ = λ i. get_or ws (word_at b p i) 0 in
    let asked : Asked ws b p 264 refl c.args.page.placed c.all.result = cases_from_all _ _ _ (λ i. w i ≡ 65535) (λ i. (w i ≡ 65535 → ⊥) × (w i < 65536)) c.all.ensures.ran (YieldsList-from_range 0 264 264 refl refl) (λ x q k. search (rules, tests)) (λ x q k. search (rules, tests)) in
    record { answer = asked_erased ws b p 264 refl c.args.page.placed _ asked; ones = asked_ones ws b p 264 refl c.args.page.placed _ asked }
