-- The lines of a profile: what a host registers, and how much scripts may hold (docs/FORMATS.md,
-- "Profile").
use Rattle.std.specs.Prelude.{ℕ, ℤ, List, Option, Some, None, codes, if◌then◌else◌}
use Rattle.std.specs.Option.{option_map}
use Rattle.std.specs.Str.{bytes_eq}
use Rattle.ang_kinds.specs.declared.mask.Mask.{Mask}
use Rattle.asrun_lines.specs.Fields.{◌>>=◌, field_of, last_field_of, rest_of, number_of, signed_of, mask_of}
use Rattle.asrun_lines.specs.Limits.{limit_of}
use Rattle.asrun_lines.specs.declared.limits.LimitLine.{LimitLine}
use Rattle.asrun_lines.specs.declared.profile_lines.ProfileLine.{ProfileLine}
use Rattle.asrun_lines.specs.declared.profile_lines.ProfileLine.TheVariants as line

-- what a line says, without where it lies in memory
pub data Entry : Type 0 where
  DefaultMask : Mask → Entry
  Limit : LimitLine → Entry
  HostType : List ℕ → ℕ → Entry
  Factory : List ℕ → ℕ → List ℕ → Entry
  Method : List ℕ → ℕ → List ℕ → Entry
  Property : List ℕ → ℕ → List ℕ → Entry
  Function : ℕ → ℕ → List ℕ → Entry
  Posted : ℕ → ℕ → List ℕ → Entry
  Global : ℕ → ℕ → List ℕ → Entry
  Enumeration : List ℕ → Entry
  EnumValue : List ℕ → List ℕ → ℤ → Entry
  Group : List ℕ → Entry
  EndGroup : Entry
  Blank : Entry

abbrev pub entry : ProfileLine → Entry
entry (line.Mask m) = DefaultMask m
entry (line.Limit limit) = Limit limit
entry (line.HostType name driver) = HostType name.now driver
entry (line.Factory type_name f decl) = Factory type_name.now f decl.now
entry (line.Method type_name f decl) = Method type_name.now f decl.now
entry (line.Property type_name f decl) = Property type_name.now f decl.now
entry (line.Function driver f decl) = Function driver f decl.now
entry (line.Posted driver f decl) = Posted driver f decl.now
entry (line.Global driver f decl) = Global driver f decl.now
entry (line.Enumeration name) = Enumeration name.now
entry (line.EnumValue enumeration name value) = EnumValue enumeration.now name.now value
entry (line.Group name) = Group name.now
entry line.EndGroup = EndGroup
entry line.Blank = Blank

-- `NAME DRIVER`, after the word `type`
unfoldable pub type_of : List ℕ → Option Entry
type_of text = do
  name ← field_of text
  driver ← number_of name.1
  Some (HostType name.0 driver)

-- `TYPE F DECL`, after the word of an entry that belongs to a type
unfoldable pub member_of : List ℕ → Option (List ℕ × ℕ × List ℕ)
member_of text = do
  type_name ← field_of text
  f ← field_of type_name.1
  n ← number_of f.0
  decl ← rest_of f.1
  Some (type_name.0, n, decl)

-- `DRIVER F DECL`, after the word of an entry that belongs to a driver
unfoldable pub own_of : List ℕ → Option (ℕ × ℕ × List ℕ)
own_of text = do
  driver ← field_of text
  d ← number_of driver.0
  f ← field_of driver.1
  n ← number_of f.0
  decl ← rest_of f.1
  Some (d, n, decl)

-- `NAME`, after the word `enum`
unfoldable pub enumeration_of : List ℕ → Option Entry
enumeration_of text = option_map Enumeration (last_field_of text)

-- `ENUM NAME N`, after the word `value`
unfoldable pub enum_value_of : List ℕ → Option Entry
enum_value_of text = do
  enumeration ← field_of text
  name ← field_of enumeration.1
  value ← signed_of name.1
  Some (EnumValue enumeration.0 name.0 value)

-- `NAME`, after the word `group`
unfoldable pub group_of : List ℕ → Option Entry
group_of text = option_map Group (last_field_of text)

-- what a line says after its first word
unfoldable pub entry_behind : List ℕ → List ℕ → Option Entry
entry_behind word text =
    if bytes_eq word (codes "mask") then option_map DefaultMask (mask_of text)
    else (if bytes_eq word (codes "limit") then option_map Limit (limit_of text)
    else (if bytes_eq word (codes "type") then type_of text
    else (if bytes_eq word (codes "factory")
    then option_map (λ m. Factory m.0 m.1 m.2) (member_of text)
    else (if bytes_eq word (codes "method")
    then option_map (λ m. Method m.0 m.1 m.2) (member_of text)
    else (if bytes_eq word (codes "property")
    then option_map (λ m. Property m.0 m.1 m.2) (member_of text)
    else (if bytes_eq word (codes "function")
    then option_map (λ o. Function o.0 o.1 o.2) (own_of text)
    else (if bytes_eq word (codes "posted")
    then option_map (λ o. Posted o.0 o.1 o.2) (own_of text)
    else (if bytes_eq word (codes "global")
    then option_map (λ o. Global o.0 o.1 o.2) (own_of text)
    else (if bytes_eq word (codes "enum") then enumeration_of text
    else (if bytes_eq word (codes "value") then enum_value_of text
    else (if bytes_eq word (codes "group") then group_of text
    else None)))))))))))

-- one of these lines, or `blank` or `endgroup` alone
unfoldable pub entry_of : List ℕ → Option Entry
entry_of text =
    if bytes_eq text (codes "blank") then Some Blank
    else (if bytes_eq text (codes "endgroup") then Some EndGroup
    else (do
      word ← field_of text
      entry_behind word.0 word.1))
