use Rattle.std.proofs.Common.{length, sym, refl, ap, ◌∙◌, arith}
use Rattle.layout.proofs.RegisterRead.{bounds, length_part, meaning_tail, meaning_register}
use Rattle.layout.proofs.read_register.Goals as goal

pub returns-then-not-all_zero : goal.returns-then-not-all_zero
returns-then-not-all_zero c = record {
  meaning = meaning_tail c.args.birth.number c.args.page.now _ _ _ (sym c.in_ok-end.ensures.ok_part ∙ c.parts_end.ensures) c.part-held_offset.ensures.bytes c.part-label_offset.ensures.bytes c.if-not-rises.ensures c.if-not-all_zero.ensures;
  parts = tt;
}

pub returns : goal.returns
returns c =
    let p = c.args.page.now in
    let held = c.part-held_offset.ensures in
    let label = c.part-label_offset.ensures in
    let d = bounds p c.in_ok-end.end (sym (sym c.in_ok-end.ensures.ok_part ∙ c.parts_end.ensures)) in
    record {
      meaning = meaning_register c.args.birth.number p _ _ _ (sym c.in_ok-end.ensures.ok_part ∙ c.parts_end.ensures) held.bytes label.bytes c.if-not-rises.ensures c.if-not-all_zero.ensures;
      parts = record {
        held = record { kind = refl; offset = held.offset; bytes = held.bytes };
        label = record { kind = refl; offset = label.offset; bytes = label.bytes };
        few = omega (arith, ap length held.bytes, length_part p 0 32 d.few);
        known = sym c.if-not-rises.ensures;
        short = omega (arith, ap length label.bytes, length_part p 1 32 d.short);
      };
    }
