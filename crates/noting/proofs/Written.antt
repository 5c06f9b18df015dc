-- What written pages say.
use Rattle.std.proofs.Common.{◌≡◌, ℕ, List, ap, ◌∙◌}
use Rattle.layout.specs.Page.{Meaning, meaning}
use Rattle.layout_write.specs.Written.{data_page, deletion_page, register_page}
use Rattle.layout_write.proofs.Round.{read_again}
use Rattle.readings.specs.Versions.{bytes}
use Rattle.readings.specs.Sayings.{version, heard, said}
use Rattle.noting.specs.Written.{WrittenSays}

said_by : (p : List ℕ) (m : Meaning) → meaning p ≡ m → said p ≡ heard m p
unfolding said
said_by p m e = ap (λ m. heard m p) e

pub written_says : WrittenSays
written_says = record {
  data_page_means = λ s b bs h i j l.
      said_by (data_page s b bs) _ (read_again.data_page_means s b bs h i j l) ∙ ap (λ z. version (record { sector = s; birth = b; content = bytes z })) (read_again.data_bytes s b bs l);
  deletion = λ s b h i j. said_by (deletion_page s b) _ (read_again.deletion s b h i j);
  register_page_means = λ b held label i j few rises short. said_by (register_page b held label) _ (read_again.register b held label i j few rises short);
}
