use Rattle.std.proofs.Common.{◌≡◌, reverse, vec_items, refl, ◌∙◌, arith}
use Rattle.std.proofs.lemmas.Result.{IfOk-weaker}
use Rattle.store.specs.Views.{seen, reading_of}
use Rattle.mount_report.proofs.Buffers.{size_fits_lem, front_is}
use Rattle.mount_report.proofs.Granted.{held_filled}
use Rattle.mount_report.proofs.mounted.Mounted.held_numbers.Goals as goal

pub slice_bounds-from_slice-end : goal.slice_bounds-from_slice-end
slice_bounds-from_slice-end g c =
    let v = seen g.C.Chip c.args.self.now.store.now in
    let says = held_filled v c.args.self.now.ready _ c.held.new.buffer c.held.result refl c.held.ensures in
    let fits = size_fits_lem 8 _ c.held.new.buffer c.held.result c.unwrap_or-count.result c.unwrap_or-count.ensures says in
    omega arith

pub returns : goal.returns
returns g c =
    let v = seen g.C.Chip c.args.self.now.store.now in
    let xs = reverse (reading_of v).held in
    let says = held_filled v c.args.self.now.ready _ c.held.new.buffer c.held.result refl c.held.ensures in
    let front = front_is 8 xs c.held.new.buffer c.held.result c.unwrap_or-count.result c.unwrap_or-count.ensures says in
    IfOk-weaker c.from_slice.result _ (λ v. vec_items v ≡ xs) (λ _ e. e ∙ front) c.from_slice.ensures.items
