-- What an index has of a list, number by number, and what is found in it.
use Rattle.std.proofs.Common.{inl, inr, ◌≡◌, ℕ, zero, suc, ◌+◌, ◌*◌, ◌<◌, ◌≤◌, ◌==◌, Bool, true, false, cond, ◌&&◌, List, [], ◌∷◌, ◌++◌, map, filter, length, Option, Some, None, refl, sym, ap, ◌∙◌, arith, position, bytes_eq}
use Rattle.std.specs.List.{position_from, range_with_len}
use Rattle.std.proofs.lemmas.Bool.Decides.{eqb_tells}
use Rattle.std.specs.Prelude.{IfNone, IfSome}
use Rattle.std.proofs.lemmas.Iterator.Adapters.{position_from-zero}
use Rattle.std.proofs.lemmas.Slice.Eq.{bytes_eq-Decides}
use Rattle.ang_index.specs.Rows.{Rows, is_under, items_at, Puts}
use Rattle.ang_kinds.specs.declared.mask.EntityNo.{EntityNo}
use Rattle.ang_view.specs.declared.entry.Entry.{Entry}
use Rattle.ang_view.specs.declared.entry.EntryKind.{EntryKind}
use Rattle.ang_view.specs.declared.entry.EntryKind.TheVariants as entry
use Rattle.ang_view.specs.Registration.{RegistrationList, entry_at, function_named, is_function, is_function_named, is_host_type, is_number, is_seen, seen, seen_entry}
use Rattle.ang_view.specs.Hidden.{numbers_of}
use Rattle.ang_view.specs.Types.{enumeration_named, is_enumeration, is_enumeration_named, is_type_named, type_named}
use Rattle.ang_view.proofs.Lists.{position-map}
use Rattle.ang_view.specs.Named.{find, FindsSame, first_of, has_name, Indexes, is_bare, is_factory, is_member, is_member_kind, is_scope, is_value, is_value_named, makers, makes, name_by, name_in, numbers_at, numbers_under, owned, PutsEntry, scope_by, scope_in, Scopes, shifted, stands_under, value_scope_by, value_scope_in, values_named}

-- ---- one entry more

range_last : (a n : ℕ) → range_with_len a (suc n) ≡ range_with_len a n ++ (a + n) ∷ []
range_last a zero = let z : a ≡ a + 0 = omega arith in ap (λ k. k ∷ []) z
range_last a (suc n) =
    let up : (a + 1) + n ≡ a + suc n = omega arith in
    ap (λ ks. a ∷ ks) (range_last (a + 1) n ∙ ap (λ k. range_with_len (a + 1) n ++ k ∷ []) up)

pub range_more : (n : ℕ) → range_with_len 0 (n + 1) ≡ range_with_len 0 n ++ n ∷ []
range_more n =
    let next : n + 1 ≡ suc n = omega arith in
    let first : 0 + n ≡ n = omega arith in
    ap (range_with_len 0) next ∙ range_last 0 n ∙ ap (λ k. range_with_len 0 n ++ k ∷ []) first

filter_more : (p : ℕ → Bool) (ks : List ℕ) (k : ℕ) → filter p (ks ++ k ∷ []) ≡ filter p ks ++ cond (p k) (k ∷ []) []
filter_more p [] k = refl
filter_more p (i ∷ is) k = by (p i) (filter_more p is k)
  where
    by : (b : Bool) → filter p (is ++ k ∷ []) ≡ filter p is ++ cond (p k) (k ∷ []) []
        → cond b (i ∷ filter p (is ++ k ∷ [])) (filter p (is ++ k ∷ [])) ≡ cond b (i ∷ filter p is) (filter p is) ++ cond (p k) (k ∷ []) []
    by true e = ap (λ r. i ∷ r) e
    by false e = e

pub under_more : (scope_of : Scopes) (V : RegistrationList) (s : ℕ) (name : List ℕ) (n : ℕ)
    → numbers_under scope_of V s name (n + 1) ≡ numbers_under scope_of V s name n ++ cond (stands_under scope_of s name (entry_at V n)) (n ∷ []) []
unfolding numbers_under
under_more scope_of V s name n =
    ap (filter (λ k. stands_under scope_of s name (entry_at V k))) (range_more n)
    ∙ filter_more (λ k. stands_under scope_of s name (entry_at V k)) (range_with_len 0 n) n

append_none : (xs : List ℕ) → xs ≡ xs ++ []
append_none [] = refl
append_none (x ∷ xs) = ap (λ r. x ∷ r) (append_none xs)

numbers_put : (b : Bool) (xs : List EntityNo) (e : EntityNo) → map (λ (e : EntityNo). e.0) (cond b (xs ++ e ∷ []) xs) ≡ map (λ (e : EntityNo). e.0) xs ++ cond b (e.0 ∷ []) []
numbers_put true [] e = refl
numbers_put true (x ∷ xs) e = ap (λ r. x.0 ∷ r) (numbers_put true xs e)
numbers_put false xs e = append_none (map (λ (e : EntityNo). e.0) xs)

-- an entry that stands in a scope is put in there
pub entry_put : (scope_of : Scopes) (o : Option Entry) (scope : ℕ) (name : List ℕ) (e : EntityNo) (old new : Rows EntityNo)
    → Some scope ≡ scope_of o → name ≡ name_in o → Puts old new scope name e → PutsEntry scope_of old new o e.0
entry_put scope_of o scope name e old new at called puts s other =
    ap (map (λ (e : EntityNo). e.0)) (puts s other)
    ∙ numbers_put (is_under s other (scope, name)) (items_at s other old) e
    ∙ ap (λ b. numbers_at s other old ++ cond b (e.0 ∷ []) []) (λ i. is_scope s (at i) && bytes_eq (called i) other)

-- one that stands in none is not
pub entry_not_put : (scope_of : Scopes) (o : Option Entry) (e : EntityNo) (rows : Rows EntityNo) → None ≡ scope_of o → PutsEntry scope_of rows rows o e.0
entry_not_put scope_of o e rows at s other =
    append_none (numbers_at s other rows) ∙ ap (λ b. numbers_at s other rows ++ cond b (e.0 ∷ []) []) (λ i. is_scope s (at i) && bytes_eq (name_in o) other)

-- ---- one entry less

itself : (n : ℕ) → (n == n) ≡ true
itself n = search arith

ends_alike : (b : Bool) (xs ys : List ℕ) (x y : ℕ) → xs ++ cond b (x ∷ []) [] ≡ ys ++ cond b (y ∷ []) [] → xs ≡ ys
ends_alike false xs ys x y e = append_none xs ∙ e ∙ sym (append_none ys)
ends_alike true [] [] x y e = refl
ends_alike true [] (n ∷ []) x y e = cc
ends_alike true [] (n ∷ m ∷ ys) x y e = cc
ends_alike true (n ∷ []) [] x y e = cc
ends_alike true (n ∷ m ∷ xs) [] x y e = cc
ends_alike true (n ∷ xs) (m ∷ ys) x y e =
    let heads : n ≡ m = cc in
    let rests : xs ++ x ∷ [] ≡ ys ++ y ∷ [] = cc in
    λ i. heads i ∷ ends_alike true xs ys x y rests i

-- what was put in last and is taken out again
entry_taken : (scope_of : Scopes) (o : Option Entry) (scope : ℕ) (name : List ℕ) (e : EntityNo) (before old new : Rows EntityNo) (n : ℕ)
    → Some scope ≡ scope_of o → name ≡ name_in o → Puts new old scope name e → PutsEntry scope_of before old o n → FindsSame before new
entry_taken scope_of o scope name e before old new n at called puts put s other =
    ends_alike (stands_under scope_of s other o) (numbers_at s other new) (numbers_at s other before) e.0 n
    (sym (entry_put scope_of o scope name e new old at called puts s other) ∙ put s other)

no_end : (xs : List ℕ) (n : ℕ) → [] ≡ xs ++ n ∷ [] → ⊥
no_end [] n e = cc
no_end (x ∷ xs) n e = cc

under_itself : (scope_of : Scopes) (o : Option Entry) (scope : ℕ) (name : List ℕ) → Some scope ≡ scope_of o → name ≡ name_in o → stands_under scope_of scope name o ≡ true
under_itself scope_of o scope name at called =
    (λ i. is_scope scope (sym at i) && bytes_eq (sym called i) name) ∙ both_true (scope == scope) (bytes_eq name name) (itself scope) ((bytes_eq-Decides name name).1 refl)
  where
    both_true : (b c : Bool) → b ≡ true → c ≡ true → (b && c) ≡ true
    both_true b c e f = cc

pub entry_popped : (scope_of : Scopes) (o : Option Entry) (scope : ℕ) (name : List ℕ) (r : Option EntityNo) (old new : Rows EntityNo) → Some scope ≡ scope_of o → name ≡ name_in o
    → IfSome r (λ x. Puts new old scope name x) → IfNone r (items_at scope name old ≡ []) → (before : Rows EntityNo) (n : ℕ) → PutsEntry scope_of before old o n → FindsSame before new
entry_popped scope_of o scope name (Some e) old new at called popped none before n put = entry_taken scope_of o scope name e before old new n at called popped put
entry_popped scope_of o scope name None old new at called popped none before n put =
    absurd (
    no_end (numbers_at scope name before) n
    (ap (map (λ (e : EntityNo). e.0)) (sym none) ∙ put scope name ∙ ap (λ b. numbers_at scope name before ++ cond b (n ∷ []) []) (under_itself scope_of o scope name at called))
    )

pub entry_not_taken : (scope_of : Scopes) (o : Option Entry) (before old : Rows EntityNo) (n : ℕ) → None ≡ scope_of o → PutsEntry scope_of before old o n → FindsSame before old
entry_not_taken scope_of o before old n at put s other =
    put s other ∙ ap (λ b. numbers_at s other before ++ cond b (n ∷ []) []) (λ i. is_scope s (sym at i) && bytes_eq (name_in o) other) ∙ sym (append_none (numbers_at s other before))

-- ---- a list with one entry more

entry_at-front : (V : RegistrationList) (o : Option Entry) (k : ℕ) → k < length V → entry_at (V ++ o ∷ []) k ≡ entry_at V k
entry_at-front [] o k lt = absurd (omega (arith, lt))
entry_at-front (x ∷ xs) o zero lt = refl
entry_at-front (x ∷ xs) o (suc k) lt = entry_at-front xs o k (omega (arith, lt))

entry_at-last : (V : RegistrationList) (o : Option Entry) → entry_at (V ++ o ∷ []) (length V) ≡ o
entry_at-last [] o = refl
entry_at-last (x ∷ xs) o = entry_at-last xs o

length-pushed : (V : RegistrationList) (o : Option Entry) → length (V ++ o ∷ []) ≡ length V + 1
length-pushed [] o = refl
length-pushed (x ∷ xs) o = let rest = length-pushed xs o in omega (arith, rest)

filter_same : (p q : ℕ → Bool) (a n : ℕ) → ((k : ℕ) → a ≤ k → k < a + n → p k ≡ q k) → filter p (range_with_len a n) ≡ filter q (range_with_len a n)
filter_same p q a zero h = refl
filter_same p q a (suc n) h =
    let here : p a ≡ q a = h a (omega arith) (omega arith) in
    let rest = filter_same p q (a + 1) n (λ k low high. h k (omega (arith, low)) (omega (arith, high))) in
    λ i. cond (here i) (a ∷ rest i) (rest i)

under_front : (scope_of : Scopes) (V : RegistrationList) (o : Option Entry) (s : ℕ) (name : List ℕ) → numbers_under scope_of (V ++ o ∷ []) s name (length V) ≡ numbers_under scope_of V s name (length V)
unfolding numbers_under
under_front scope_of V o s name =
    filter_same (λ k. stands_under scope_of s name (entry_at (V ++ o ∷ []) k)) (λ k. stands_under scope_of s name (entry_at V k)) 0 (length V)
    (λ k low high. ap (stands_under scope_of s name) (entry_at-front V o k (omega (arith, high))))

pub one_more_indexed : (scope_of : Scopes) (V : RegistrationList) (o : Option Entry) (n : ℕ) (old new : Rows EntityNo) → Indexes scope_of V old → n ≡ length V → PutsEntry scope_of old new o n → Indexes scope_of (V ++ o ∷ []) new
one_more_indexed scope_of V o n old new ix is puts =
    record {
      same = λ s name.
          puts s name
          ∙ ap (λ ns. ns ++ cond (stands_under scope_of s name o) (n ∷ []) []) (ix.same s name ∙ sym (under_front scope_of V o s name))
          ∙ (λ i. numbers_under scope_of (V ++ o ∷ []) s name (length V) ++ cond (stands_under scope_of s name (sym (entry_at-last V o) i)) (is i ∷ []) [])
          ∙ sym (under_more scope_of (V ++ o ∷ []) s name (length V))
          ∙ ap (numbers_under scope_of (V ++ o ∷ []) s name) (sym (length-pushed V o));
    }

pub none_indexed : (scope_of : Scopes) (rows : Rows EntityNo) → rows ≡ [] → Indexes scope_of [] rows
unfolding numbers_under
none_indexed scope_of rows e = record { same = λ s name. ap (numbers_at s name) e }

pub same_indexed : (scope_of : Scopes) (V : RegistrationList) (old new : Rows EntityNo) → Indexes scope_of V old → FindsSame old new → Indexes scope_of V new
same_indexed scope_of V old new ix same = record { same = λ s name. same s name ∙ ix.same s name }

-- ---- what is found

even_or_odd : (u t : ℕ) → ((2 * u + 2) == (2 * t + 1)) ≡ false
even_or_odd u t = elim (eqb_tells (2 * u + 2) (2 * t + 1)) [ inl e ↦ absurd (omega (arith, e.1)) | inr e ↦ e.0 ]

odd_or_even : (u t : ℕ) → ((2 * u + 1) == (2 * t + 2)) ≡ false
odd_or_even u t = elim (eqb_tells (2 * u + 1) (2 * t + 2)) [ inl e ↦ absurd (omega (arith, e.1)) | inr e ↦ e.0 ]

above_none : (u k : ℕ) → 0 < k → ((2 * u + k) == 0) ≡ false
above_none u k lt = elim (eqb_tells (2 * u + k) 0) [ inl e ↦ absurd (omega (arith, lt, e.1)) | inr e ↦ e.0 ]

none_above : (t k : ℕ) → 0 < k → (0 == (2 * t + k)) ≡ false
none_above t k lt = elim (eqb_tells 0 (2 * t + k)) [ inl e ↦ absurd (omega (arith, lt, e.1)) | inr e ↦ e.0 ]

twice_differ : (u t k : ℕ) → (u == t) ≡ false → (u ≡ t → ⊥) → ((2 * u + k) == (2 * t + k)) ≡ (u == t)
twice_differ u t k unlike differ =
    elim (eqb_tells (2 * u + k) (2 * t + k)) [ inl e ↦ absurd (differ (omega (arith, e.1))) | inr e ↦ e.0 ∙ sym unlike ]

twice_same : (u t k : ℕ) → ((2 * u + k) == (2 * t + k)) ≡ (u == t)
twice_same u t k =
    elim (eqb_tells u t) [ inl e ↦ ap (λ n. (2 * n + k) == (2 * t + k)) e.1 ∙ itself (2 * t + k) ∙ sym e.0 | inr e ↦ twice_differ u t k e.0 e.1 ]

-- the scope of a type's members or factories, against each other scope
in_own : (t k : ℕ) (owner : Option EntityNo) → is_scope (2 * t + k) (shifted k owner) ≡ is_number t owner
in_own t k None = refl
in_own t k (Some e) = twice_same e.0 t k

not_bare : (k : ℕ) (owner : Option EntityNo) → 0 < k → is_scope 0 (shifted k owner) ≡ false
not_bare k None lt = refl
not_bare k (Some e) lt = above_none e.0 k lt

no_maker : (t : ℕ) (owner : Option EntityNo) → is_scope (2 * t + 1) (shifted 2 owner) ≡ false
no_maker t None = refl
no_maker t (Some e) = even_or_odd e.0 t

no_member : (t : ℕ) (owner : Option EntityNo) → is_scope (2 * t + 2) (shifted 1 owner) ≡ false
no_member t None = refl
no_member t (Some e) = odd_or_even e.0 t

and_true : (b : Bool) → (b && true) ≡ b
and_true true = refl
and_true false = refl

named_by : (name own : List ℕ) (owner : Option EntityNo) (k : EntryKind) → (is_scope 0 (scope_by k owner) && bytes_eq (name_by k own) name) ≡ (is_bare k && bytes_eq own name)
named_by name own owner entry.HostType = refl
named_by name own owner entry.Factory = ap (λ b. b && bytes_eq [] name) (not_bare 2 owner (omega arith))
named_by name own owner entry.Method = ap (λ b. b && bytes_eq own name) (not_bare 1 owner (omega arith))
named_by name own owner entry.Property = ap (λ b. b && bytes_eq own name) (not_bare 1 owner (omega arith))
named_by name own owner entry.Function = refl
named_by name own owner entry.Global = refl
named_by name own owner entry.Enumeration = refl
named_by name own owner (entry.EnumValue v) = ap (λ b. b && bytes_eq own name) (not_bare 1 owner (omega arith))

is_named : (name : List ℕ) (o : Option Entry) → stands_under scope_in 0 name o ≡ has_name name o
is_named name None = refl
is_named name (Some x) = named_by name x.signature.name x.owner x.kind

owned_by : (t : ℕ) (name own : List ℕ) (owner : Option EntityNo) (k : EntryKind)
    → (is_scope (2 * t + 1) (scope_by k owner) && bytes_eq (name_by k own) name) ≡ (is_member_kind k && (is_number t owner && bytes_eq own name))
owned_by t name own owner entry.HostType = ap (λ b. b && bytes_eq own name) (none_above t 1 (omega arith))
owned_by t name own owner entry.Factory = ap (λ b. b && bytes_eq [] name) (no_maker t owner)
owned_by t name own owner entry.Method = ap (λ b. b && bytes_eq own name) (in_own t 1 owner)
owned_by t name own owner entry.Property = ap (λ b. b && bytes_eq own name) (in_own t 1 owner)
owned_by t name own owner entry.Function = ap (λ b. b && bytes_eq own name) (none_above t 1 (omega arith))
owned_by t name own owner entry.Global = ap (λ b. b && bytes_eq own name) (none_above t 1 (omega arith))
owned_by t name own owner entry.Enumeration = ap (λ b. b && bytes_eq own name) (none_above t 1 (omega arith))
owned_by t name own owner (entry.EnumValue v) = ap (λ b. b && bytes_eq own name) (in_own t 1 owner)

is_owned : (t : ℕ) (name : List ℕ) (o : Option Entry) → stands_under scope_in (2 * t + 1) name o ≡ is_member t name o
is_owned t name None = refl
is_owned t name (Some x) = owned_by t name x.signature.name x.owner x.kind

made_by : (t : ℕ) (own : List ℕ) (owner : Option EntityNo) (k : EntryKind) → (is_scope (2 * t + 2) (scope_by k owner) && bytes_eq (name_by k own) []) ≡ (is_factory k && is_number t owner)
made_by t own owner entry.HostType = ap (λ b. b && bytes_eq own []) (none_above t 2 (omega arith))
made_by t own owner entry.Factory = and_true (is_scope (2 * t + 2) (shifted 2 owner)) ∙ in_own t 2 owner
made_by t own owner entry.Method = ap (λ b. b && bytes_eq own []) (no_member t owner)
made_by t own owner entry.Property = ap (λ b. b && bytes_eq own []) (no_member t owner)
made_by t own owner entry.Function = ap (λ b. b && bytes_eq own []) (none_above t 2 (omega arith))
made_by t own owner entry.Global = ap (λ b. b && bytes_eq own []) (none_above t 2 (omega arith))
made_by t own owner entry.Enumeration = ap (λ b. b && bytes_eq own []) (none_above t 2 (omega arith))
made_by t own owner (entry.EnumValue v) = ap (λ b. b && bytes_eq own []) (no_member t owner)

is_made : (t : ℕ) (o : Option Entry) → stands_under scope_in (2 * t + 2) [] o ≡ makes t o
is_made t None = refl
is_made t (Some x) = made_by t x.signature.name x.owner x.kind

pub names_are : (V : RegistrationList) (rows : Rows EntityNo) (name : List ℕ) → Indexes scope_in V rows → numbers_at 0 name rows ≡ find V name
unfolding numbers_under find
names_are V rows name ix = ix.same 0 name ∙ (λ i. filter (λ n. is_named name (entry_at V n) i) (numbers_of V))

pub owned_are : (V : RegistrationList) (rows : Rows EntityNo) (t : ℕ) (name : List ℕ) → Indexes scope_in V rows → numbers_at (2 * t + 1) name rows ≡ owned V t name
unfolding numbers_under owned
owned_are V rows t name ix = ix.same (2 * t + 1) name ∙ (λ i. filter (λ n. is_owned t name (entry_at V n) i) (numbers_of V))

pub makers_are : (V : RegistrationList) (rows : Rows EntityNo) (t : ℕ) → Indexes scope_in V rows → numbers_at (2 * t + 2) [] rows ≡ makers V t
unfolding numbers_under makers
makers_are V rows t ix = ix.same (2 * t + 2) [] ∙ (λ i. filter (λ n. is_made t (entry_at V n) i) (numbers_of V))

value_by : (name own : List ℕ) (k : EntryKind) → (is_scope 0 (value_scope_by k) && bytes_eq (name_by k own) name) ≡ (is_value k && bytes_eq own name)
value_by name own entry.HostType = refl
value_by name own entry.Factory = refl
value_by name own entry.Method = refl
value_by name own entry.Property = refl
value_by name own entry.Function = refl
value_by name own entry.Global = refl
value_by name own entry.Enumeration = refl
value_by name own (entry.EnumValue v) = refl

is_valued : (name : List ℕ) (o : Option Entry) → stands_under value_scope_in 0 name o ≡ is_value_named name o
is_valued name None = refl
is_valued name (Some x) = value_by name x.signature.name x.kind

pub values_are : (V : RegistrationList) (rows : Rows EntityNo) (name : List ℕ) → Indexes value_scope_in V rows → numbers_at 0 name rows ≡ values_named V name
unfolding numbers_under values_named
values_are V rows name ix = ix.same 0 name ∙ (λ i. filter (λ n. is_valued name (entry_at V n) i) (numbers_of V))

-- ---- types by name

abbrev first_in : (ℕ → Bool) → List ℕ → Option ℕ
first_in test [] = None
first_in test (n ∷ ns) = cond (test n) (Some n) (first_in test ns)

first_numbers : (test : ℕ → Bool) (es : List EntityNo) → first_of test es ≡ first_in test (map (λ (e : EntityNo). e.0) es)
first_numbers test [] = refl
first_numbers test (e ∷ es) = ap (λ r. cond (test e.0) (Some e.0) r) (first_numbers test es)

first_kept : (p : ℕ → Bool) (n : ℕ) (ns ms : List ℕ) (b c : Bool) → p n ≡ c → (c ≡ true → b ≡ true) → first_in p ns ≡ first_in p ms
    → cond c (Some n) (first_in p ns) ≡ first_in p (cond b (n ∷ ms) ms)
first_kept p n ns ms true c e h same = λ i. cond (sym e i) (Some n) (same i)
first_kept p n ns ms false true e h same = let no' : false ≡ true = h refl in cc
first_kept p n ns ms false false e h same = same

first_filtered : (p q : ℕ → Bool) → ((n : ℕ) → p n ≡ true → q n ≡ true) → (ns : List ℕ) → first_in p ns ≡ first_in p (filter q ns)
first_filtered p q h [] = refl
first_filtered p q h (n ∷ ns) = first_kept p n ns (filter q ns) (q n) (p n) refl (h n) (first_filtered p q h ns)

first_in_range : (test : Option Entry → Bool) (all xs : RegistrationList) (i : ℕ) → ((j : ℕ) → entry_at all (i + j) ≡ entry_at xs j)
    → first_in (λ n. test (entry_at all n)) (range_with_len i (length xs)) ≡ position_from test i xs
first_in_range test all [] i stands = refl
first_in_range test all (x ∷ xs) i stands =
    let z : i + 0 ≡ i = omega arith in
    let here : entry_at all i ≡ x = ap (entry_at all) (sym z) ∙ stands 0 in
    let rest = first_in_range test all xs (i + 1) (λ j. let up : (i + 1) + j ≡ i + suc j = omega arith in ap (entry_at all) up ∙ stands (suc j)) in
    λ k. cond (test (here k)) (Some i) (rest k)

bare_type : (b c d : Bool) → (b ≡ true → d ≡ true) → (b && c) ≡ true → (d && c) ≡ true
bare_type true c d h e = rw (h refl) e
bare_type false c d h e = cc

-- the first entry that passes a test, among those of the name that the test asks for
first_found : (test : Option Entry → Bool) (V : RegistrationList) (name : List ℕ) (es : List EntityNo) → ((o : Option Entry) → test o ≡ true → has_name name o ≡ true)
    → map (λ (e : EntityNo). e.0) es ≡ find V name → first_of (λ n. test (entry_at V n)) es ≡ position test V
unfolding find
first_found test V name es wide found =
    let p : ℕ → Bool = λ n. test (entry_at V n) in
    let q : ℕ → Bool = λ n. has_name name (entry_at V n) in
    first_numbers p es ∙ ap (first_in p) found ∙ sym (first_filtered p q (λ n e. wide (entry_at V n) e) (numbers_of V))
    ∙ first_in_range test V V 0 (λ j. let z : 0 + j ≡ j = omega arith in ap (entry_at V) z)
    ∙ sym (position_from-zero test V)

host_type_is_bare : (k : EntryKind) → is_host_type k ≡ true → is_bare k ≡ true
host_type_is_bare entry.HostType e = refl
host_type_is_bare entry.Factory e = cc
host_type_is_bare entry.Method e = cc
host_type_is_bare entry.Property e = cc
host_type_is_bare entry.Function e = cc
host_type_is_bare entry.Global e = cc
host_type_is_bare entry.Enumeration e = cc
host_type_is_bare (entry.EnumValue v) e = cc

type_has_name : (name : List ℕ) (o : Option Entry) → is_type_named name o ≡ true → has_name name o ≡ true
type_has_name name None e = cc
type_has_name name (Some x) e = bare_type (is_host_type x.kind) (bytes_eq x.signature.name name) (is_bare x.kind) (host_type_is_bare x.kind) e

pub type_found : (V : RegistrationList) (name : List ℕ) (es : List EntityNo) → map (λ (e : EntityNo). e.0) es ≡ find V name
    → first_of (λ n. is_type_named name (entry_at V n)) es ≡ type_named V name
unfolding type_named
type_found V name es found = first_found (is_type_named name) V name es (type_has_name name) found

enumeration_is_bare : (k : EntryKind) → is_enumeration k ≡ true → is_bare k ≡ true
enumeration_is_bare entry.HostType e = cc
enumeration_is_bare entry.Factory e = cc
enumeration_is_bare entry.Method e = cc
enumeration_is_bare entry.Property e = cc
enumeration_is_bare entry.Function e = cc
enumeration_is_bare entry.Global e = cc
enumeration_is_bare entry.Enumeration e = refl
enumeration_is_bare (entry.EnumValue v) e = cc

enumeration_has_name : (name : List ℕ) (o : Option Entry) → is_enumeration_named name o ≡ true → has_name name o ≡ true
enumeration_has_name name None e = cc
enumeration_has_name name (Some x) e = bare_type (is_enumeration x.kind) (bytes_eq x.signature.name name) (is_bare x.kind) (enumeration_is_bare x.kind) e

pub enumeration_found : (V : RegistrationList) (name : List ℕ) (es : List EntityNo) → map (λ (e : EntityNo). e.0) es ≡ find V name
    → first_of (λ n. is_enumeration_named name (entry_at V n)) es ≡ enumeration_named V name
unfolding enumeration_named
enumeration_found V name es found = first_found (is_enumeration_named name) V name es (enumeration_has_name name) found

-- ---- functions by name, as a mask sees them

function_is_bare : (k : EntryKind) → is_function k ≡ true → is_bare k ≡ true
function_is_bare entry.HostType e = cc
function_is_bare entry.Factory e = cc
function_is_bare entry.Method e = cc
function_is_bare entry.Property e = cc
function_is_bare entry.Function e = refl
function_is_bare entry.Global e = cc
function_is_bare entry.Enumeration e = cc
function_is_bare (entry.EnumValue v) e = cc

seen_function_has_name : (name : List ℕ) (x : Entry) (b : Bool) → is_function_named name (cond b (Some x) None) ≡ true → has_name name (Some x) ≡ true
seen_function_has_name name x true e = bare_type (is_function x.kind) (bytes_eq x.signature.name name) (is_bare x.kind) (function_is_bare x.kind) e
seen_function_has_name name x false e = cc

function_has_name : (V : RegistrationList) (m : ℕ) (name : List ℕ) (o : Option Entry) → is_function_named name (seen_entry V m o) ≡ true → has_name name o ≡ true
function_has_name V m name None e = cc
function_has_name V m name (Some x) e = seen_function_has_name name x (is_seen V m x) e

pub function_found : (V : RegistrationList) (m : ℕ) (name : List ℕ) (es : List EntityNo) → map (λ (e : EntityNo). e.0) es ≡ find V name
    → first_of (λ n. is_function_named name (seen_entry V m (entry_at V n))) es ≡ function_named (seen V m) name
unfolding seen
function_found V m name es found =
    first_found (λ o. is_function_named name (seen_entry V m o)) V name es (function_has_name V m name) found
    ∙ sym (position-map (is_function_named name) (seen_entry V m) V)
