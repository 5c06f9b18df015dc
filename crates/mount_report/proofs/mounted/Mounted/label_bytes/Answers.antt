use Rattle.std.proofs.Common.{◌≡◌, vec_items, refl, ◌∙◌, arith}
use Rattle.std.proofs.lemmas.Result.{IfOk-weaker}
use Rattle.store.specs.Views.{seen, reading_of}
use Rattle.mount_report.proofs.Buffers.{size_fits_lem, front_is}
use Rattle.mount_report.proofs.Granted.{label_filled}
use Rattle.mount_report.proofs.mounted.Mounted.label_bytes.Goals as goal

pub slice_bounds-from_slice-end : goal.slice_bounds-from_slice-end
slice_bounds-from_slice-end g c =
    let v = seen g.C.Chip c.args.self.now.store.now in
    let says = label_filled v c.args.self.now.ready _ c.label.new.buffer c.label.result refl c.label.ensures in
    let fits = size_fits_lem 32 _ c.label.new.buffer c.label.result c.unwrap_or-size.result c.unwrap_or-size.ensures says in
    omega arith

pub returns : goal.returns
returns g c =
    let v = seen g.C.Chip c.args.self.now.store.now in
    let xs = (reading_of v).label in
    let says = label_filled v c.args.self.now.ready _ c.label.new.buffer c.label.result refl c.label.ensures in
    let front = front_is 32 xs c.label.new.buffer c.label.result c.unwrap_or-size.result c.unwrap_or-size.ensures says in
    IfOk-weaker c.from_slice.result _ (λ v. vec_items v ≡ xs) (λ _ e. e ∙ front) c.from_slice.ensures.items
