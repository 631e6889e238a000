-- What places of modules keep from one command to the next: each name stands once, an empty place has no globals, and no link leads to one.
use Rattle.std.proofs.Common.{◌≡◌, ◌≢◌, ◌<◌, ◌+◌, refl, sym, ap, ap₂, ◌∙◌, subst, inl, inr, arith, ℕ, zero, suc, Bool, true, false, List, [], ◌∷◌, ◌++◌, length, map, Option, Some, None}
use Rattle.std.specs.Prelude.{cond, filter, not, ◌⊎◌, ◌==◌, IsSome, is_some, bytes_eq, unwrap_or, option_map, position, slice_get, slice_set, slice_index_or, if◌then◌else◌}
use Rattle.std.proofs.lemmas.Bool.{eqb-false}
use Rattle.std.proofs.lemmas.List.{length-append, length-map}
use Rattle.std.proofs.lemmas.List.Quantifiers.{position-Some}
use Rattle.std.proofs.lemmas.Option.{unwrap_or-slice_get}
use Rattle.std.proofs.lemmas.Slice.Eq.{bytes_eq-Decides}
use Rattle.ang_meaning.specs.declared.slot.Slot.{Slot}
use Rattle.ang_meaning.specs.declared.routine.Routine.{Routine}
use Rattle.ang_engine_modules.specs.Modules.{unbound_link, unbound_links}
use Rattle.ang_engine_modules.specs.World.{Program, ModuleState, World, has_name, module_in, unbound_program, unbound_module}
use Rattle.ang_engine_modules.proofs.Finding.{none_passes}
use Rattle.ang_alike.specs.Moved.{Moving, moved_routine}
use Rattle.ang_alike.proofs.ByNumber.{at_more, at_unbound, set_either}
use Rattle.ang_alike.proofs.MovedModules.{moved_links, moved_program, moved_place}

-- ---- where links lead

module _ (P : ℕ → Type 0) where
  abbrev pub LinkLeads : Option Routine → Type 0
  LinkLeads None = Unit {0}
  LinkLeads (Some g) = P g.home

  abbrev pub LinksLead : List (Option Routine) → Type 0
  LinksLead [] = Unit {0}
  LinksLead (l ∷ ls) = LinkLeads l × LinksLead ls

  abbrev pub ProgramLeads : Option Program → Type 0
  ProgramLeads None = Unit {0}
  ProgramLeads (Some q) = LinksLead q.links

  -- each link of the module leads to a place of which P holds
  abbrev pub PlaceLeads : Option ModuleState → Type 0
  PlaceLeads None = Unit {0}
  PlaceLeads (Some m) = ProgramLeads m.program

  pub links_put : (ls : List (Option Routine)) (index : ℕ) (g : Option Routine) → LinkLeads g → LinksLead ls → LinksLead (slice_set ls index g)
  links_put [] index g k h = tt
  links_put (l ∷ ls) zero g k h = (k, h.1)
  links_put (l ∷ ls) (suc index) g k h = (h.0, links_put ls index g k h.1)

  -- P holds of all of them
  abbrev pub AllHold : List ℕ → Type 0
  AllHold [] = Unit {0}
  AllHold (n ∷ ns) = P n × AllHold ns

  pub all_last : (ns : List ℕ) (k : ℕ) → AllHold ns → P k → AllHold (ns ++ k ∷ [])
  all_last [] k h e = (e, tt)
  all_last (n ∷ ns) k h e = (h.0, all_last ns k h.1 e)

  pub unlinked_lead : {A : Type 0} (xs : List A) → LinksLead (map (λ x. None) xs)
  unlinked_lead [] = tt
  unlinked_lead (x ∷ xs) = (tt, unlinked_lead xs)

module _ (P Q : ℕ → Type 0) where
  link_still : (l : Option Routine) → ((n : ℕ) → P n → Q n) → LinkLeads P l → LinkLeads Q l
  link_still None k h = tt
  link_still (Some g) k h = k g.home h

  links_still : (ls : List (Option Routine)) → ((n : ℕ) → P n → Q n) → LinksLead P ls → LinksLead Q ls
  links_still [] k h = tt
  links_still (l ∷ ls) k h = (link_still l k h.0, links_still ls k h.1)

  pub program_still : (o : Option Program) → ((n : ℕ) → P n → Q n) → ProgramLeads P o → ProgramLeads Q o
  program_still None k h = tt
  program_still (Some q) k h = links_still q.links k h

  pub place_still : (o : Option ModuleState) → ((n : ℕ) → P n → Q n) → PlaceLeads P o → PlaceLeads Q o
  place_still None k h = tt
  place_still (Some m) k h = program_still m.program k h

  pub all_still : (ns : List ℕ) → ((n : ℕ) → P n → Q n) → AllHold P ns → AllHold Q ns
  all_still [] k h = tt
  all_still (n ∷ ns) k h = (k n h.0, all_still ns k h.1)

  -- with none that leads to module i
  module _ (i : ℕ) (k : (n : ℕ) → n ≢ i → P n → Q n) where
    free_by : (g : Routine) (b : Bool) → (g.home == i) ≡ b → P g.home → LinkLeads Q (if b then None else Some g)
    free_by g true e h = tt
    free_by g false e h = k g.home (eqb-false g.home i e) h

    left_by : (n : ℕ) (ns : List ℕ) (b : Bool) → (n == i) ≡ b → P n → AllHold Q ns → AllHold Q (cond (not b) (n ∷ ns) ns)
    left_by n ns true e h l = l
    left_by n ns false e h l = (k n (eqb-false n i e) h, l)

    pub all_left : (ns : List ℕ) → AllHold P ns → AllHold Q (filter (λ n. not (n == i)) ns)
    all_left [] h = tt
    all_left (n ∷ ns) h = left_by n (filter (λ j. not (j == i)) ns) (n == i) refl h.0 (all_left ns h.1)

    link_free : (l : Option Routine) → LinkLeads P l → LinkLeads Q (unbound_link i l)
    link_free None h = tt
    link_free (Some g) h = free_by g (g.home == i) refl h

    links_free : (ls : List (Option Routine)) → LinksLead P ls → LinksLead Q (unbound_links i ls)
    links_free [] h = tt
    links_free (l ∷ ls) h = (link_free l h.0, links_free ls h.1)

    program_free : (o : Option Program) → ProgramLeads P o → ProgramLeads Q (option_map (unbound_program i) o)
    program_free None h = tt
    program_free (Some q) h = links_free q.links h

    pub place_free : (o : Option ModuleState) → PlaceLeads P o → PlaceLeads Q (option_map (unbound_module i) o)
    place_free None h = tt
    place_free (Some m) h = program_free m.program h

-- Modules are the same under two lists of new numbers that agree where their links lead.
module _ (p q : Moving) where
  abbrev Agrees : ℕ → Type 0
  Agrees n = q.to n ≡ p.to n

  link_agrees : (l : Option Routine) → LinkLeads Agrees l → option_map (moved_routine q) l ≡ option_map (moved_routine p) l
  link_agrees None h = refl
  link_agrees (Some g) h = ap (λ n. Some (record g { home = n })) h

  links_agree : (ls : List (Option Routine)) → LinksLead Agrees ls → moved_links q ls ≡ moved_links p ls
  links_agree [] h = refl
  links_agree (l ∷ ls) h = ap₂ (λ x xs. x ∷ xs) (link_agrees l h.0) (links_agree ls h.1)

  program_agrees : (o : Option Program) → ProgramLeads Agrees o → option_map (moved_program q) o ≡ option_map (moved_program p) o
  program_agrees None h = refl
  program_agrees (Some x) h = ap (λ ls. Some (record x { links = ls })) (links_agree x.links h)

  pub numbers_agree : (ns : List ℕ) → AllHold Agrees ns → map q.to ns ≡ map p.to ns
  numbers_agree [] h = refl
  numbers_agree (n ∷ ns) h = ap₂ (λ x xs. x ∷ xs) h.0 (numbers_agree ns h.1)

  pub place_agrees : (o : Option ModuleState) → PlaceLeads Agrees o → moved_place q o ≡ moved_place p o
  place_agrees None h = refl
  place_agrees (Some m) h = ap (λ x. Some (record m { program = x })) (program_agrees m.program h)

-- ---- what is kept

-- In each place there is a module, or none, and its globals are so many.
pub record Holds (at : ℕ → Option ModuleState) (many : ℕ → ℕ) : Type 0 where
  pub empty : (i : ℕ) → at i ≡ None → many i ≡ 0
  pub once : (name : List ℕ) (i j : ℕ) → has_name name (at i) ≡ true → has_name name (at j) ≡ true → i ≡ j
  pub leads : (i : ℕ) → PlaceLeads (λ n. IsSome (at n)) (at i)

-- the same as before but in place i
abbrev pub Except : {A : Type 0} → (ℕ → A) → (ℕ → A) → ℕ → A → Type 0
Except was is i x = (n : ℕ) → (is n ≡ was n) ⊎ ((n ≡ i) × (is n ≡ x))

none_some : {A : Type 0} (o : Option A) (x : A) → o ≡ None → o ≡ Some x → ⊥
none_some o x e f = let q : ⊥ = cc in q

some_is : {A : Type 0} (o : Option A) (x : A) → o ≡ Some x → IsSome o
some_is o x e = ap is_some e

module _ (was is : ℕ → Option ModuleState) (many more : ℕ → ℕ) (i : ℕ) (x : ModuleState) (set : Except was is i (Some x)) (here : is i ≡ Some x) where
  stays_there : (n : ℕ) → IsSome (was n) → IsSome (is n)
  stays_there n h = elim (set n) [
    | inl e ↦ ap is_some e ∙ h
    | inr e ↦ some_is (is n) x e.1
  ]

  empty_by : (m n : ℕ) → n ≢ i → is n ≡ None → (is n ≡ was n) ⊎ ((n ≡ i) × (is n ≡ Some x)) → (more n ≡ many n) ⊎ ((n ≡ i) × (more n ≡ m))
      → ((k : ℕ) → was k ≡ None → many k ≡ 0) → more n ≡ 0
  empty_by m n d e (inl a) (inl b) k = b ∙ k n (sym a ∙ e)
  empty_by m n d e (inr a) b k = absurd (d a.0)
  empty_by m n d e (inl a) (inr b) k = absurd (d b.0)

  empty_elsewhere : (m : ℕ) → Except many more i m → ((n : ℕ) → was n ≡ None → many n ≡ 0) → (n : ℕ) → is n ≡ None → more n ≡ 0
  empty_elsewhere m lists k n e = empty_by m n (λ s. none_some (is n) x e (ap is s ∙ here)) e (set n) (lists n) k

  leads_still : ((n : ℕ) → PlaceLeads (λ k. IsSome (was k)) (was n)) → ProgramLeads (λ k. IsSome (was k)) x.program → (n : ℕ) → PlaceLeads (λ k. IsSome (is k)) (is n)
  leads_still h k n =
      let still = stays_there in
      elim (set n) [
        | inl e ↦ subst (PlaceLeads (λ k. IsSome (is k))) (sym e) (place_still (λ k. IsSome (was k)) (λ k. IsSome (is k)) (was n) still (h n))
        | inr e ↦ subst (PlaceLeads (λ k. IsSome (is k))) (sym e.1) (program_still (λ k. IsSome (was k)) (λ k. IsSome (is k)) x.program still k)
      ]

  -- a module in place of another one of its name
  pub holds_put : (m : ℕ) → Except many more i m → ((name : List ℕ) → bytes_eq x.name name ≡ true → has_name name (was i) ≡ true)
      → ProgramLeads (λ k. IsSome (was k)) x.program → Holds was many → Holds is more
  holds_put m lists names leads h = record {
    empty = empty_elsewhere m lists h.empty;
    once = λ name a b d e. h.once name a b (named name a d) (named name b e);
    leads = leads_still h.leads leads;
  }
    where
      named : (name : List ℕ) (n : ℕ) → has_name name (is n) ≡ true → has_name name (was n) ≡ true
      named name n e = elim (set n) [
        | inl a ↦ ap (has_name name) (sym a) ∙ e
        | inr a ↦ ap (λ k. has_name name (was k)) a.0 ∙ names name (ap (has_name name) (sym a.1) ∙ e)
      ]

  -- a module of a new name
  pub holds_new : (m : ℕ) → Except many more i m → x.program ≡ None → ((n : ℕ) → has_name x.name (was n) ≡ true → ⊥) → Holds was many → Holds is more
  holds_new m lists unbuilt new h = record {
    empty = empty_elsewhere m lists h.empty;
    once = λ name a b d e. once_by name a b (set a) (set b) d e;
    leads = leads_still h.leads (subst (ProgramLeads (λ k. IsSome (was k))) (sym unbuilt) tt);
  }
    where
      clash : (name : List ℕ) (a b : ℕ) → is a ≡ Some x → has_name name (is a) ≡ true → is b ≡ was b → has_name name (is b) ≡ true → ⊥
      clash name a b s d e f =
          let same : x.name ≡ name = (bytes_eq-Decides x.name name).0 (ap (has_name name) (sym s) ∙ d) in
          new b (ap (λ l. has_name l (was b)) same ∙ ap (has_name name) (sym e) ∙ f)

      once_by : (name : List ℕ) (a b : ℕ) → (is a ≡ was a) ⊎ ((a ≡ i) × (is a ≡ Some x)) → (is b ≡ was b) ⊎ ((b ≡ i) × (is b ≡ Some x))
          → has_name name (is a) ≡ true → has_name name (is b) ≡ true → a ≡ b
      once_by name a b (inl e) (inl f) c d = h.once name a b (ap (has_name name) (sym e) ∙ c) (ap (has_name name) (sym f) ∙ d)
      once_by name a b (inl e) (inr f) c d = absurd (clash name b a f.1 d e c)
      once_by name a b (inr e) (inl f) c d = absurd (clash name a b e.1 c f d)
      once_by name a b (inr e) (inr f) c d = e.0 ∙ sym f.0

-- the same but for what is not seen of a place
pub holds_as : (was is : ℕ → Option ModuleState) (many more : ℕ → ℕ) → ((n : ℕ) → is n ≡ was n) → ((n : ℕ) → more n ≡ many n) → Holds was many → Holds is more
holds_as was is many more e f h =
    subst (λ at. Holds at more) (λ j. λ n. sym (e n) j) (subst (λ k. Holds was k) (λ j. λ n. sym (f n) j) h)

-- ---- no import leads to module i any more

module _ (was is : ℕ → Option ModuleState) (many : ℕ → ℕ) (i : ℕ) (all : (n : ℕ) → is n ≡ option_map (unbound_module i) (was n)) (h : Holds was many) where
  some_still : (o : Option ModuleState) → is_some (option_map (unbound_module i) o) ≡ is_some o
  some_still None = refl
  some_still (Some m) = refl

  none_still : (o : Option ModuleState) → option_map (unbound_module i) o ≡ None → o ≡ None
  none_still None e = refl
  none_still (Some m) e = absurd (let q : ⊥ = cc in q)

  name_still : (name : List ℕ) (o : Option ModuleState) → has_name name (option_map (unbound_module i) o) ≡ has_name name o
  name_still name None = refl
  name_still name (Some m) = refl

  there_still : (n : ℕ) → IsSome (was n) → IsSome (is n)
  there_still n k = ap is_some (all n) ∙ some_still (was n) ∙ k

  pub leads_elsewhere : (n : ℕ) → PlaceLeads (λ k. (k ≢ i) × IsSome (is k)) (is n)
  leads_elsewhere n =
      subst (PlaceLeads (λ k. (k ≢ i) × IsSome (is k))) (sym (all n))
      (place_free (λ k. IsSome (was k)) (λ k. (k ≢ i) × IsSome (is k)) i (λ k d e. (d, there_still k e)) (was n) (h.leads n))

  pub holds_unbound : Holds is many
  holds_unbound = record {
    empty = λ n e. h.empty n (none_still (was n) (sym (all n) ∙ e));
    once = λ name a b d e. h.once name a b (named name a d) (named name b e);
    leads = λ n. place_still (λ k. (k ≢ i) × IsSome (is k)) (λ k. IsSome (is k)) (is n) (λ k e. e.1) (leads_elsewhere n);
  }
    where
      named : (name : List ℕ) (n : ℕ) → has_name name (is n) ≡ true → has_name name (was n) ≡ true
      named name n e = sym (ap (has_name name) (all n) ∙ name_still name (was n)) ∙ e

-- the module of a place to which no import leads is gone, and so are its globals
pub holds_gone : (was is : ℕ → Option ModuleState) (many more : ℕ → ℕ) (i : ℕ) → Except was is i None → Except many more i 0 → more i ≡ 0
    → ((n : ℕ) → PlaceLeads (λ k. (k ≢ i) × IsSome (was k)) (was n)) → Holds was many → Holds is more
holds_gone was is many more i set lists gone leads h = record {
  empty = λ n e. gone_by n e (set n) (lists n);
  once = λ name a b d e. h.once name a b (named name a d) (named name b e);
  leads = λ n. leads_by n (set n);
}
  where
    gone_by : (n : ℕ) → is n ≡ None → (is n ≡ was n) ⊎ ((n ≡ i) × (is n ≡ None)) → (more n ≡ many n) ⊎ ((n ≡ i) × (more n ≡ 0)) → more n ≡ 0
    gone_by n e (inl a) (inl b) = b ∙ h.empty n (sym a ∙ e)
    gone_by n e (inr a) (inl b) = ap more a.0 ∙ gone
    gone_by n e a (inr b) = b.1

    not_named : (name : List ℕ) (o : Option ModuleState) → o ≡ None → has_name name o ≡ true → ⊥
    not_named name o e f = let s : false ≡ true = sym (ap (has_name name) e) ∙ f in let q : ⊥ = cc in q

    named : (name : List ℕ) (n : ℕ) → has_name name (is n) ≡ true → has_name name (was n) ≡ true
    named name n e = elim (set n) [
      | inl a ↦ ap (has_name name) (sym a) ∙ e
      | inr a ↦ absurd (not_named name (is n) a.1 e)
    ]

    stays : (k : ℕ) → (k ≢ i) × IsSome (was k) → IsSome (is k)
    stays k e = elim (set k) [
      | inl a ↦ ap is_some a ∙ e.1
      | inr a ↦ absurd (e.0 a.0)
    ]

    leads_by : (n : ℕ) → (is n ≡ was n) ⊎ ((n ≡ i) × (is n ≡ None)) → PlaceLeads (λ k. IsSome (is k)) (is n)
    leads_by n (inl e) =
        subst (PlaceLeads (λ k. IsSome (is k))) (sym e)
        (place_still (λ k. (k ≢ i) × IsSome (was k)) (λ k. IsSome (is k)) (was n) stays (leads n))
    leads_by n (inr e) = subst (PlaceLeads (λ k. IsSome (is k))) (sym e.1) tt

-- ---- lists

abbrev pub places_at : List (Option ModuleState) → ℕ → Option ModuleState
places_at ps n = slice_index_or ps n None

abbrev pub lengths_at : List (List Slot) → ℕ → ℕ
lengths_at gs n = slice_index_or (map length gs) n 0

-- a module is there still where one is put
pub put_stays : (ps : List (Option ModuleState)) (i : ℕ) (x : ModuleState) (n : ℕ) → IsSome (places_at ps n) → IsSome (places_at (slice_set ps i (Some x)) n)
put_stays ps i x n h = elim (set_either ps i n (Some x) None) [
  | inl e ↦ ap is_some e ∙ h
  | inr e ↦ ap is_some e.1
]

pub gone_stays : (ps : List (Option ModuleState)) (i n : ℕ) → n ≢ i → IsSome (places_at ps n) → IsSome (places_at (slice_set ps i None) n)
gone_stays ps i n d h = elim (set_either ps i n None None) [
  | inl e ↦ ap is_some e ∙ h
  | inr e ↦ absurd (d e.0)
]

pub unbound_stays : (ps : List (Option ModuleState)) (i n : ℕ) → IsSome (places_at ps n) → IsSome (places_at (map (option_map (unbound_module i)) ps) n)
unbound_stays ps i n h = ap is_some (at_unbound ps i n) ∙ mapped (places_at ps n) ∙ h
  where
    mapped : (o : Option ModuleState) → is_some (option_map (unbound_module i) o) ≡ is_some o
    mapped None = refl
    mapped (Some m) = refl

-- There is a list of globals for each place.
pub record AreKept (ps : List (Option ModuleState)) (gs : List (List Slot)) : Type 0 where
  pub lists : length gs ≡ length ps
  pub holds : Holds (places_at ps) (lengths_at gs)

abbrev pub IsKept : World → Type 0
IsKept w = AreKept w.modules.places w.globals

-- with as many globals of each module
pub kept_as : (ps : List (Option ModuleState)) (gs hs : List (List Slot)) → map length hs ≡ map length gs → AreKept ps gs → AreKept ps hs
kept_as ps gs hs e h = record {
  lists = sym (length-map hs length) ∙ ap length e ∙ length-map gs length ∙ h.lists;
  holds = subst (λ ns. Holds (places_at ps) (λ n. slice_index_or ns n 0)) (sym e) h.holds;
}

-- an empty list of globals
pub list_empty : (gs : List (List Slot)) (k : ℕ) → lengths_at gs k ≡ 0 → slice_index_or gs k [] ≡ []
list_empty [] k e = refl
list_empty ([] ∷ gs) zero e = refl
list_empty ((x ∷ l) ∷ gs) zero e = absurd (omega (arith, e))
list_empty (l ∷ gs) (suc k) e = list_empty gs k e

lengths_more : (gs : List (List Slot)) (n : ℕ) → lengths_at (gs ++ [] ∷ []) n ≡ lengths_at gs n
lengths_more [] zero = refl
lengths_more [] (suc n) = refl
lengths_more (l ∷ gs) zero = refl
lengths_more (l ∷ gs) (suc n) = lengths_more gs n

-- one more place
pub kept_more : (ps : List (Option ModuleState)) (gs : List (List Slot)) → AreKept ps gs → AreKept (ps ++ None ∷ []) (gs ++ [] ∷ [])
kept_more ps gs h = record {
  lists = length-append gs ([] ∷ []) ∙ ap (λ n. n + 1) h.lists ∙ sym (length-append ps (None ∷ []));
  holds = holds_as (places_at ps) (places_at (ps ++ None ∷ [])) (lengths_at gs) (lengths_at (gs ++ [] ∷ [])) (at_more ps) (lengths_more gs) h.holds;
}

-- ---- the module of a name

named_some : (name : List ℕ) (o : Option ModuleState) → has_name name o ≡ true → o ≡ Some (module_in o)
named_some name None e = absurd (let q : ⊥ = cc in q)
named_some name (Some m) e = refl

-- it is there
pub record Stands (ps : List (Option ModuleState)) (i : ℕ) : Type 0 where
  pub within : i < length ps
  pub there : places_at ps i ≡ Some (module_in (places_at ps i))

pub found_stands : (name : List ℕ) (ps : List (Option ModuleState)) (i : ℕ) → position (has_name name) ps ≡ Some i → Stands ps i
found_stands name ps i e =
    let p = position-Some (has_name name) ps i None e in
    record { within = p.0; there = named_some name (places_at ps i) p.1 }

pub found_named : (name : List ℕ) (ps : List (Option ModuleState)) (i : ℕ) → position (has_name name) ps ≡ Some i → has_name name (places_at ps i) ≡ true
found_named name ps i e = (position-Some (has_name name) ps i None e).1

not_found_by : (name : List ℕ) (ps : List (Option ModuleState)) (i : ℕ) (o : Option (Option ModuleState)) → slice_get ps i ≡ o → position (has_name name) ps ≡ None → has_name name (places_at ps i) ≡ true → ⊥
not_found_by name ps i None at e f =
    let s : places_at ps i ≡ None = sym (unwrap_or-slice_get ps i None) ∙ ap (λ x. unwrap_or x None) at in
    let q : false ≡ true = sym (ap (has_name name) s) ∙ f in let r : ⊥ = cc in r
not_found_by name ps i (Some x) at e f =
    let s : places_at ps i ≡ x = sym (unwrap_or-slice_get ps i None) ∙ ap (λ y. unwrap_or y None) at in
    let q : false ≡ true = sym (none_passes (has_name name) ps i x e at) ∙ ap (has_name name) (sym s) ∙ f in let r : ⊥ = cc in r

-- where none is found none has the name
pub not_found : (name : List ℕ) (ps : List (Option ModuleState)) → position (has_name name) ps ≡ None → (i : ℕ) → has_name name (places_at ps i) ≡ true → ⊥
not_found name ps e i f = not_found_by name ps i (slice_get ps i) refl e f

found_by : (name : List ℕ) (ps : List (Option ModuleState)) (o : Option ℕ) → position (has_name name) ps ≡ o
    → ((i j : ℕ) → has_name name (places_at ps i) ≡ true → has_name name (places_at ps j) ≡ true → i ≡ j)
    → (i : ℕ) → has_name name (places_at ps i) ≡ true → position (has_name name) ps ≡ Some i
found_by name ps None e once i h = absurd (not_found name ps e i h)
found_by name ps (Some j) e once i h = e ∙ ap (λ n. Some n) (once j i (found_named name ps j e) h)

-- the one that has it is found
pub the_one : (name : List ℕ) (ps : List (Option ModuleState)) → ((i j : ℕ) → has_name name (places_at ps i) ≡ true → has_name name (places_at ps j) ≡ true → i ≡ j)
    → (i : ℕ) → has_name name (places_at ps i) ≡ true → position (has_name name) ps ≡ Some i
the_one name ps once i h = found_by name ps (position (has_name name) ps) refl once i h
