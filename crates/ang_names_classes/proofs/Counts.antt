-- How many fields a family declares, counted one by one.
use Rattle.std.specs.Prelude.{◌≡◌, ◌+◌, cond, List, length, count_by}
use Rattle.std.specs.List.{cons_option, filter_map}
use Rattle.std.proofs.Common.{arith, refl, sym}
use Rattle.std.proofs.lemmas.List.Recursion.{is_count_by}
use Rattle.ang_names_known.specs.declared.names.Written.{Written}
use Rattle.ang_names_known.specs.Spaces.{Space}
use Rattle.ang_names_listed.specs.declared.listed.ListedMember.{ListedMember}
use Rattle.ang_names_listed.specs.declared.listed.MemberKind.{MemberKind}
use Rattle.ang_names_listed.specs.declared.listed.MemberKind.TheVariants as member
use Rattle.ang_names_listed.specs.Declarations.{Declaring}
use Rattle.ang_names_classes.specs.Hierarchy.{field_type, field_types}
use Rattle.ang_names_classes.specs.Tables.{is_field}

one_more : (E : Space) (d : Declaring) (k : MemberKind) (rest : List Written)
    → length (cons_option (field_type E d k) rest) ≡ cond (is_field k) (1 + length rest) (length rest)
one_more E d (member.Field y) rest = omega arith
one_more E d (member.Method y ps a) rest = refl
one_more E d (member.Constructor ps) rest = refl

pub fields_counted : (E : Space) (d : Declaring) → count_by (λ (m : ListedMember). is_field m.kind) d.shape.members ≡ length (field_types E d)
fields_counted E d =
    sym (is_count_by (λ xs. length (filter_map (λ (m : ListedMember). field_type E d m.kind) xs)) (λ (m : ListedMember). is_field m.kind) refl
    (λ m xs. one_more E d m.kind (filter_map (λ (x : ListedMember). field_type E d x.kind) xs)) d.shape.members)
