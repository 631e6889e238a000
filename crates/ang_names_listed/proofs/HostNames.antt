-- A declaration can clash with those entries of the host alone that have its name.
use Rattle.std.proofs.Common.{◌≡◌, ℕ, true, List, map, Option, Some, None, refl, ◌∙◌, bytes_eq}
use Rattle.std.specs.List.{list_any}
use Rattle.std.specs.Cmp.Lexicographic.{nat_list_eq_equiv}
use Rattle.ang_kinds.specs.declared.mask.EntityNo.{EntityNo}
use Rattle.ang_kinds.specs.declared.types.Param.{Param}
use Rattle.ang_view.specs.declared.entry.Entry.{Entry}
use Rattle.ang_view.specs.declared.entry.EntryKind.{EntryKind}
use Rattle.ang_view.specs.declared.entry.EntryKind.TheVariants as entry
use Rattle.ang_view.specs.Named.{find, has_name, is_bare}
use Rattle.ang_view.specs.Registration.{RegistrationList, entry_at}
use Rattle.ang_view.proofs.Among.{any_found}
use Rattle.ang_view.proofs.Lists.{and_from, and_gives}
use Rattle.ang_names_listed.specs.declared.listed.ListedDeclaration.{ListedDeclaration}
use Rattle.ang_names_listed.specs.declared.listed.Part.{Part}
use Rattle.ang_names_listed.specs.Declarations.{declared_name}
use Rattle.ang_names_listed.specs.Taken.{clashes_with_host, excludes_host}

excludes_is_bare : (text : List ℕ) (p : Part) (k : EntryKind) (qs : List Param) → excludes_host text p k qs ≡ true → is_bare k ≡ true
excludes_is_bare text p entry.HostType qs e = refl
excludes_is_bare text p entry.Factory qs e = cc
excludes_is_bare text p entry.Method qs e = cc
excludes_is_bare text p entry.Property qs e = cc
excludes_is_bare text p entry.Function qs e = refl
excludes_is_bare text p entry.Global qs e = refl
excludes_is_bare text p entry.Enumeration qs e = refl
excludes_is_bare text p (entry.EnumValue v) qs e = cc

clash_has_name : (d : ListedDeclaration) (o : Option Entry) → clashes_with_host d o ≡ true → has_name (declared_name d) o ≡ true
clash_has_name d None e = cc
clash_has_name d (Some x) e =
    let r = and_gives (bytes_eq (declared_name d) x.signature.name) (excludes_host d.text d.part x.kind x.signature.params) e in
    and_from (is_bare x.kind) (bytes_eq x.signature.name (declared_name d)) (excludes_is_bare d.text d.part x.kind x.signature.params r.1)
    (nat_list_eq_equiv.symm x.signature.name (declared_name d) ∙ r.0)

pub taken_by_host : (V : RegistrationList) (d : ListedDeclaration) (es : List EntityNo) → map (λ (e : EntityNo). e.0) es ≡ find V (declared_name d)
    → list_any (λ (e : EntityNo). clashes_with_host d (entry_at V e.0)) es ≡ list_any (clashes_with_host d) V
taken_by_host V d es row = any_found (clashes_with_host d) V (declared_name d) es (clash_has_name d) row
