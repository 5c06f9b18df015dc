use Rattle.std.proofs.Common.{ℕ, List, Ok, Err, Result, sym, ap, ◌∙◌}
use Rattle.std.specs.Result.{IsErr}
use Rattle.chip.specs.declared.ChipFault.{ChipFault}
use Rattle.chip.specs.Pages.{Page}
use Rattle.std.specs.Option.{option_map}
use Rattle.limits.specs.Numbers.{rising}
use Rattle.limits.specs.Values.{held_of, label_of, register_values}
use Rattle.readings.specs.Sayings.{register}
use Rattle.tables.specs.declared.index.Index.{Index}
use Rattle.changing.specs.Changed.{NextRegister}
use Rattle.changing.proofs.Adding.{next_tick}
use Rattle.changing.proofs.Registering.{frozen_rises, released_rises, not_made, register_says, register_next}
use Rattle.changing.proofs.register_image.Goals as goal

refused : (ix : Index) (held : List ℕ) (r : Result Page ChipFault) → IsErr r → ((fault : ChipFault) → NextRegister ix held (Err fault)) → NextRegister ix held r
refused ix held (Ok image) e f = cc
refused ix held (Err fault) e f = f fault

pub returns-in_err-register-clause-next : goal.returns-in_err-register-clause-next
returns-in_err-register-clause-next c =
    let ix = c.args.ix.now in
    let held = held_of c.args.held in
    let b = c.next_birth.result.number in
    let is = c.next_birth.ensures in
    let none = ap (option_map register_values) (sym c.in_err-register.ensures.ok_part) ∙ c.new.ensures in
    refused ix held c.from_residual.result c.from_residual.ensures.0 (λ fault blocks per pages pages' ix' can.
    let tick = ap (λ n. rising 0 n held) (next_tick blocks per pages ix can b is) in
    record {
      freezes = λ e. absurd (not_made b held (label_of ix.label) (tick ∙ frozen_rises blocks per pages ix can held e) none);
      releases = λ n e. absurd (not_made b held (label_of ix.label) (tick ∙ released_rises blocks per pages ix can held n e) none);
    })

pub returns : goal.returns
returns c =
    let ix = c.args.ix.now in
    let held = held_of c.args.held in
    let b = c.next_birth.result.number in
    let is = c.next_birth.ensures in
    let some = ap (option_map register_values) (sym c.in_ok-register.ensures.ok_part) ∙ c.new.ensures in
    let says = register_says c.in_ok-register.register b held (label_of ix.label) _ some c.write_register.ensures.writes in
    record {
      says = says ∙ ap (λ n. register (record { birth = n; held = held; label = label_of ix.label })) is;
      next = λ blocks per pages can. register_next blocks per pages ix can b is held _ says;
    }
