use Rattle.std.proofs.Common.{◌≡◌, true, false, rules}
use Rattle.bench_calls.specs.Calls.{is_remount}
use Rattle.bench_calls.proofs.Pushed.{one_call, two_calls}
use Rattle.bench_calls.proofs.asking.push_calls.Goals as goal

pub returns-in_ok-push-2 : goal.returns-in_ok-push-2
returns-in_ok-push-2 c =
    let remount : is_remount c.args.command ≡ true = search rules in
    two_calls _ _ _ _ _ c.in_ok-push.ensures.items c.first_call.ensures _ remount c.in_ok-push-2.ensures.items

pub returns-else-eq : goal.returns-else-eq
returns-else-eq c =
    let other : is_remount c.args.command ≡ false = search rules in
    one_call _ _ _ _ _ c.in_ok-push.ensures.items c.first_call.ensures other
