-- What written pages say to a store.
use Rattle.std.specs.Prelude.{◌≡◌, ℕ, ◌≤◌, true, List, length}
use Rattle.limits.specs.Numbers.{rising}
use Rattle.layout_write.specs.Written.{data_page, deletion_page, register_page}
use Rattle.readings.specs.Versions.{bytes, deleted}
use Rattle.readings.specs.Sayings.{version, register, said}

pub record WrittenSays : Type 0 where
  pub data_page_means : (s b : ℕ) (bs : List ℕ) → s ≤ 2047 → 1 ≤ b → b ≤ 4294967294 → length bs ≡ 512 →
      said (data_page s b bs) ≡ version (record { sector = s; birth = b; content = bytes bs })
  pub deletion : (s b : ℕ) → s ≤ 2047 → 1 ≤ b → b ≤ 4294967294 → said (deletion_page s b) ≡ version (record { sector = s; birth = b; content = deleted })
  pub register_page_means : (b : ℕ) (held label : List ℕ) → 1 ≤ b → b ≤ 4294967294 → length held ≤ 8 → rising 0 b held ≡ true → length label ≤ 32 →
      said (register_page b held label) ≡ register (record { birth = b; held = held; label = label })
