use Rattle.std.proofs.Common.{◌≡◌, ◌-◌, ◌*◌, length, drop, sym, ap, ◌∙◌, arith, length-drop}
use Rattle.std.specs.Slice.Iter.{chunks_exact_rest, chunks_exact_size}
use Rattle.std.specs.Iterator.Adapters.{enumerate_count, enumerate_source}
use Rattle.nor.specs.Image.{word_at}
use Rattle.nor.specs.Program.{anded, programmed}
use Rattle.nor.proofs.Pairs.{room, left, next_pair}
use Rattle.nor.proofs.PageAt.and_bytes.Goals as goal

pub loop-i-init : goal.loop-i-init
loop-i-init c =
    let bytes = c.args.bytes.now in
    let it = c.into_iter-i-iterator.ensures.into_iter_gives in
    let zero : enumerate_count c.into_iter-i-iterator.result ≡ 0 = ap enumerate_count it ∙ c.enumerate-i-items.ensures.count in
    let pairs : enumerate_source c.into_iter-i-iterator.result ≡ c.chunks_exact.result = ap enumerate_source it ∙ c.enumerate-i-items.ensures.source in
    record {
      done = ap (anded c.args.image.now c.args.self.block c.args.self.place bytes) (sym zero);
      rest = ap chunks_exact_rest pairs ∙ c.chunks_exact.ensures.rest ∙ ap (λ k. drop (2 * k) bytes) (sym zero);
      size = ap chunks_exact_size pairs ∙ c.chunks_exact.ensures.size;
      most = omega arith;
    }

pub loop-i-preserved : goal.loop-i-preserved
loop-i-preserved c =
    let bytes = c.args.bytes.now in
    let b = c.args.self.block in
    let p = c.args.self.place in
    let n = enumerate_count c.loop-i.i-iterator in
    let pair = c.in-Some.pair.now in
    let v = c.loop-i.invariant in
    let s = c.in-Some.ensures.steps in
    let cut = sym v.rest ∙ s.0.1.0 in
    let two = s.0.1.1 ∙ v.size in
    let fits = room bytes n pair _ cut two in
    record {
      done = next_pair bytes n pair _ cut two c.args.image.now c.loop-i.image b p _ _ v.done (c.word.ensures ∙ ap (λ i. word_at b p i) s.1) c.from_le_bytes.ensures ∙ ap (anded c.args.image.now b p bytes) (sym s.2);
      rest = left bytes n pair _ cut two ∙ ap (λ k. drop (2 * k) bytes) (sym s.2);
      size = s.0.0 ∙ v.size;
      most = omega arith;
    }

pub returns : goal.returns
unfolding programmed
returns c =
    let bytes = c.args.bytes.now in
    let n = enumerate_count c.loop-i.i-iterator in
    let v = c.loop-i.invariant in
    let s = c.in-None.ensures.steps in
    let few : length bytes - 2 * n ≡ length _ = sym (length-drop (2 * n) bytes) ∙ ap length (sym v.rest) in
    let last : n ≡ 264 = omega arith in
    v.done ∙ ap (anded c.args.image.now c.args.self.block c.args.self.place bytes) last
