-- The tags of pages, and what these pages say without their contents.
use Rattle.std.specs.Prelude.{◌≡◌, ℕ, Bool, true, false, List, [], map, Some, None, Option}
use Rattle.limits.specs.declared.types.Version as limits
use Rattle.layout.specs.declared.pages.Tag.{Tag}
use Rattle.layout.specs.declared.pages.Tag.TheVariants as tag
use Rattle.readings.specs.Versions.{Content, bytes, deleted, Version}
use Rattle.readings.specs.Sayings.{Saying, nothing, version, register, bad}

abbrev pub plain_version : ℕ → ℕ → Content → Version
plain_version s b c = record { sector = s; birth = b; content = c }

abbrev pub bare_content : Content → Content
bare_content (bytes bs) = bytes []
bare_content deleted = deleted

abbrev pub bare_version : Version → Version
bare_version v = plain_version v.sector v.birth (bare_content v.content)

-- A saying without its bytes, held numbers and label.
abbrev pub bare : Saying → Saying
bare nothing = nothing
bare (version v) = version (bare_version v)
bare (register r) = register (record { birth = r.birth; held = []; label = [] })
bare (bad cause) = bad cause

abbrev pub tag_saying : Tag → Saying
tag_saying tag.Erased = nothing
tag_saying (tag.Data v) = version (plain_version v.sector.number v.birth.number (bytes []))
tag_saying (tag.Deletion v) = version (plain_version v.sector.number v.birth.number deleted)
tag_saying (tag.Register b) = register (record { birth = b.number; held = []; label = [] })

abbrev pub tag_sayings : List Tag → List Saying
tag_sayings ts = map tag_saying ts

-- These are the tags of pages that say xs.
abbrev pub Tagged : List Saying → List Tag → Type 0
Tagged xs ts = tag_sayings ts ≡ map bare xs

-- The birth in a tag, and the version.
abbrev pub birth_in : Tag → Option ℕ
birth_in tag.Erased = None
birth_in (tag.Data v) = Some v.birth.number
birth_in (tag.Deletion v) = Some v.birth.number
birth_in (tag.Register b) = Some b.number

abbrev pub version_in : Tag → Option limits.Version
version_in tag.Erased = None
version_in (tag.Data v) = Some v
version_in (tag.Deletion v) = Some v
version_in (tag.Register b) = None

-- The tag is that of an erased page.
abbrev pub is_blank : Tag → Bool
is_blank tag.Erased = true
is_blank (tag.Data v) = false
is_blank (tag.Deletion v) = false
is_blank (tag.Register b) = false
