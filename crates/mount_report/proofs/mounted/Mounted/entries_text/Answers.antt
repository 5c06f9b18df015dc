use Rattle.std.proofs.Common.{◌≡◌, ℕ, ◌+◌, [], ◌++◌, Option, refl, ap, ◌∙◌, add-one, arith}
use Rattle.std.proofs.lemmas.Slice.{pushed}
use Rattle.readings.specs.Versions.{Reading}
use Rattle.rules.specs.Calls.{born_at}
use Rattle.store.specs.Views.{seen, reading_of}
use Rattle.mount_report.specs.Lines.{version_in, entry, entries}
use Rattle.rules.specs.declared.types.Tick.{Tick}
use Rattle.mount_report.proofs.mounted.Mounted.entries_text.Goals as goal

no_entries : (r : Reading) (state : Option Tick) → [] ≡ entries r state 0
unfolding entries
no_entries r state = refl

one_more : (r : Reading) (state : Option Tick) (n : ℕ) → entries r state n ++ entry n (born_at (version_in r state n)) ≡ entries r state (n + 1)
unfolding entries
one_more r state n = rw add-one

pub loop-sector-init : goal.loop-sector-init
loop-sector-init g c = c.new-text.ensures.bytes ∙ no_entries _ c.args.frozen

pub loop-sector-preserved : goal.loop-sector-preserved
loop-sector-preserved g c =
    let r = reading_of (seen g.C.Chip c.args.self.now.store.now) in
    let n = c.loop-sector.sector in
    let text = pushed c.as_str.result.now refl c.in_ok-push_str.was c.push_str.ensures.bytes in
    let part = c.as_str.ensures.value ∙ c.in_ok-entry.ensures ∙ ap (entry n) c.birth_in.ensures in
    text ∙ ap (λ z. z ++ c.as_str.result.now) c.loop-sector.invariant ∙ ap (λ z. entries r c.args.frozen n ++ z) part ∙ one_more r c.args.frozen n

pub returns : goal.returns
returns g c =
    let r = reading_of (seen g.C.Chip c.args.self.now.store.now) in
    let all : c.loop-sector.sector ≡ 2048 = omega arith in
    c.loop-sector.invariant ∙ ap (entries r c.args.frozen) all
