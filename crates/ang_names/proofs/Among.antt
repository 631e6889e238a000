-- All that a member clashes with are among those of its name, and how the places of names grow.
use Rattle.std.specs.Prelude.{ℕ, ◌≡◌, cond, List, [], ◌∷◌, ◌++◌, bytes_eq, length, map}
use Rattle.std.specs.List.{list_any}
use Rattle.std.proofs.Common.{refl}
use Rattle.ang_index.specs.Rows.{Rows, items_at}
use Rattle.ang_names_known.specs.NameIndex.{places_of}
use Rattle.ang_names_known.proofs.PlacesByName.{all_among as all_by_name, one_more_place as place_put}
use Rattle.ang_names_listed.specs.declared.listed.ListedMember.{ListedMember}
use Rattle.ang_names.specs.Before.{HasPlaces, Members, clashes_at, clashes_with, member_name}
use Rattle.ang_names.specs.Refusals.{clashes_with_member, excludes_member}

pub all_among : (all : Members) (m : ListedMember) (places : List ℕ) → places ≡ places_of (map (member_name all.text) all.items) (member_name all.text m)
    → list_any (clashes_at all m) places ≡ list_any (clashes_with_member all.text m) all.items
all_among all m places e =
    all_by_name (member_name all.text) (member_name all.text m) (λ (x : ListedMember). excludes_member all.text m.kind x.kind) (clashes_with all.text m) (λ x. refl)
    all.items places e

pub one_more_place : (text : List ℕ) (old new : Rows ℕ) (ms all : List ListedMember) (m : ListedMember) (own : List ℕ) → HasPlaces (record { text = text; items = ms }) old
    → own ≡ member_name text m
    → ((name : List ℕ) → items_at 0 name new ≡ cond (bytes_eq own name) (items_at 0 name old ++ length ms ∷ []) (items_at 0 name old))
    → all ≡ ms ++ m ∷ [] → HasPlaces (record { text = text; items = all }) new
one_more_place text old new ms all m own has named puts grown = record {
  places = λ name. place_put (member_name text) ms all m own name (items_at 0 name old) (items_at 0 name new) named grown (has.places name) (puts name);
}
