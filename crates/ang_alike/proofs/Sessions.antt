-- Lists of commands over two lists that show the same to the masks of builds have the same replies, apart from denials.
use Rattle.std.proofs.Common.{◌≡◌, ◌≤◌, ℕ, inl, inr, List, [], ◌∷◌, ◌++◌, length, refl, sym, ap, ap₂, ◌∙◌, subst, Option, Some, None, map as list_map}
use Rattle.std.proofs.Math.Nat.{sub-zero}
use Rattle.std.specs.Prelude.{Bool, true, false, ◌||◌, option_map, if◌then◌else◌}
use Rattle.std.specs.FinMap.{get-empty}
use Rattle.std.specs.Ordering.{nat_cmp}
use Rattle.ang_meaning.specs.declared.routine.Routine.{Routine}
use Rattle.ang_engine_modules.specs.Modules.{link_at}
use Rattle.ang_host.specs.State.{count_of}
use Rattle.ang_view.specs.declared.group.Group.{Group}
use Rattle.ang_view.specs.Groups.{Grouped, group_named, is_named_outside, left_outside, without_group}
use Rattle.ang_view.proofs.Keeping.{length-only, only_values}
use Rattle.ang_view.specs.Values.{TakesValues}
use Rattle.ang_meaning.specs.World.{Bounds, Input, World as RunWorld}
use Rattle.ang_meaning.specs.Counting.{IsCounted}
use Rattle.ang_meaning.specs.Alike.{Renaming, unchanged, renamed_record}
use Rattle.ang_meaning.proofs.AlikeWorlds.{three}
use Rattle.ang_meaning.proofs.Roots.{nothing_counted}
use Rattle.ang_meaning.proofs.Matching.{Match}
use Rattle.ang_code_laws.specs.Alike.{AreAlike}
use Rattle.ang_code_laws.proofs.AlikeRuns.{LeftAlike, match_then, begun}
use Rattle.ang_engine_modules.specs.declared.command.Command.{Command}
use Rattle.ang_engine_modules.specs.declared.command.Command.TheVariants.{NewModule, SetMask, AddSection, Build, Bind, Unbind, Call, Discard, RemoveGroup}
use Rattle.ang_engine_modules.specs.declared.reply.Reply.{Reply}
use Rattle.ang_engine_modules.specs.World.{ModuleStates, World, no_modules, bounded_by, running, left_to}
use Rattle.ang_engine_modules.specs.Commands.{Stepped}
use Rattle.ang_engine.specs.Groups.{Removed, InUse, is_used, list_of, removal, removal_of}
use Rattle.ang_engine.specs.Step.{step, Takes, list_after}
use Rattle.ang_alike.specs.Alike.{BoundedCommand, BothGranted, Grants, InTurn, IsRegistered, SeesSame, grants_in, Agree, TakenAlike, BothInTurn, answers_in, common, common_in, HiddenDoesNotMatter, AnswersDecide, ToldAlikeReplyAlike, ToldAlikeReplySame}
use Rattle.ang_alike.proofs.Modules.{AreGood}
use Rattle.ang_alike.proofs.Steps.{AreSame, SteppedAlike, BothAlike, step_alike}
use Rattle.ang_alike.proofs.Unseen.{common_step, hidden_same}
use Rattle.ang_alike.proofs.Compared.{granted_agree, told_same}

-- ---- between commands

-- The worlds have the same modules, and are equal up to the numbers of script objects.
pub record AreBetween (w u : World) : Type 0 where
  pub modules : u.modules ≡ w.modules
  pub by : Renaming
  pub alike : AreAlike by (running w []) (running u [])
  pub counted : IsCounted [] (running w [])
  pub good : AreGood w.modules

-- both hosts allow as much from now on
within_both : (b : Bounds) (w u : World) → AreBetween w u → AreBetween (bounded_by b w) (bounded_by b u)
within_both b w u h = record {
  modules = h.modules;
  by = h.by;
  alike = record {
    objects = h.alike.objects;
    hosts = h.alike.hosts;
    globals = h.alike.globals;
    events = refl;
    reserved = h.alike.reserved;
    spent = h.alike.spent;
    bounds = refl;
    inputs = refl;
  };
  counted = h.counted;
  good = h.good;
}

-- a world is what is left of a run that begins there and does nothing
begun_from : (w : World) → w ≡ left_to w.modules (running w [])
begun_from w = ap (λ n. record w { live = n }) (sym (sub-zero w.live))

-- ---- what two commands leave

none_some : {A : Type 0} (a : A) → None ≡ Some a → ⊥
none_some a e = let x : ⊥ = cc in x

some_same : {A : Type 0} (x y : A) → Some x ≡ Some y → x ≡ y
some_same x y e = cc

left_alike : (apart : Type 0) (a b : Stepped) → SteppedAlike apart a b → LeftAlike apart a.left b.left
left_alike apart a b h = three (λ m. inl m.alike.inputs) (λ l. inr (inl l)) (λ l. inr (inr l)) h

left_by : (c : Command) (apart : Type 0) (o p : Option Stepped) (a b : Stepped) → BothAlike apart o p → option_map (common_step c) o ≡ Some a → option_map (common_step c) p ≡ Some b → LeftAlike apart a.left b.left
left_by c apart None p a b h e f = absurd (none_some a e)
left_by c apart (Some x) None a b h e f = absurd (none_some b f)
left_by c apart (Some x) (Some y) a b h e f =
    subst (λ s. LeftAlike apart a.left s.left) (some_same (common_step c y) b f) (subst (λ s. LeftAlike apart s.left y.left) (some_same (common_step c x) a e) (left_alike apart x y h))

between_of : (a b : Stepped) → AreSame ⊥ a b → AreBetween a.world b.world
between_of a b m = record {
  modules = m.modules;
  by = m.by;
  alike = record { objects = m.alike.objects; hosts = m.alike.hosts; globals = m.alike.globals; events = refl; reserved = m.alike.reserved; spent = m.alike.spent; bounds = m.alike.bounds; inputs = refl };
  counted = m.counted;
  good = m.good;
}

only_same : (a b : Stepped) → SteppedAlike ⊥ a b → AreSame ⊥ a b
only_same a b h = three (λ m. m) (λ l. absurd l.0) (λ l. absurd l.0) h

-- The replies, which are the same with their denials where there is one list, and the worlds after them.
record AreTold (c : Command) (one_list : Type 0) (reply answer : Reply) (w u : World) : Type 0 where
  same : common c reply ≡ common c answer
  whole : one_list → reply ≡ answer
  between : AreBetween w u

told_by : (c : Command) (one_list : Type 0) (o p : Option Stepped) (a b : Stepped) → BothAlike ⊥ o p → o ≡ Some a → option_map (common_step c) p ≡ Some (common_step c b) → (one_list → p ≡ Some b) → AreTold c one_list a.reply b.reply a.world b.world
told_by c one_list None p a b h e f g = absurd (none_some a e)
told_by c one_list (Some x) None a b h e f g = absurd (none_some (common_step c b) f)
told_by c one_list (Some x) (Some y) a b h e f g =
    let m = only_same x y h in
    let one : x ≡ a = some_same x a e in
    let two : common_step c y ≡ common_step c b = some_same (common_step c y) (common_step c b) f in
    record {
      same = ap (λ s. common c s.reply) (sym one) ∙ ap (common c) (sym m.reply) ∙ ap (λ s. s.reply) two;
      whole = λ l. ap (λ s. s.reply) (sym one) ∙ sym m.reply ∙ ap (λ s. s.reply) (some_same y b (g l));
      between = subst (λ s. AreBetween a.world s.world) two (subst (λ s. AreBetween s.world y.world) one (between_of x y m));
    }

-- ---- one command

-- what a build sees is seen by the modules' masks alone
sees_again : (R S : Grouped) (w : World) (q : RunWorld) (c : Command) → SeesSame R S w c → SeesSame R S (left_to w.modules q) c
sees_again R S w q (NewModule name mask) h = tt
sees_again R S w q (SetMask name mask) h = tt
sees_again R S w q (AddSection name text) h = tt
sees_again R S w q (Build name budget) h = h
sees_again R S w q (Bind name index exporter decl) h = tt
sees_again R S w q (Unbind name index) h = tt
sees_again R S w q (Call name decl args budget) h = tt
sees_again R S w q (Discard name) h = tt
sees_again R S w q (RemoveGroup name) h = tt

module _ (R S : Grouped) (values : TakesValues R.entries) (few : length R.entries ≤ 1024) where
  module _ (ms : ModuleStates) (good : AreGood ms) (r : Renaming) (v w : RunWorld) (counted : IsCounted [] v) (h : AreAlike r v w) (c : Command) (sees : SeesSame R S (left_to ms w) c) where
    abbrev goes : List Input → Option Stepped
    goes is = option_map (common_step c) (step R (left_to ms v) c is)

    abbrev goes_too : List Input → Option Stepped
    goes_too js = option_map (common_step c) (step S (left_to ms w) c js)

    both : (apart : Type 0) (is js : List Input) → Match apart is js → BothAlike apart (step R (left_to ms v) c is) (step R (left_to ms w) c js)
    both apart is js m = step_alike apart R values few ms good r v w counted (λ is' js' m'. begun apart r is' js' v w h m') c is js m

    pairs : (apart : Type 0) (is js : List Input) (a b : Stepped) → Match apart is js → goes is ≡ Some a → goes_too js ≡ Some b → LeftAlike apart a.left b.left
    pairs apart is js a b m e f =
        left_by c apart (step R (left_to ms v) c is) (step R (left_to ms w) c js) a b (both apart is js m) e (hidden_same R S (left_to ms w) c sees js ∙ f)

    command_alike : (reply answer : Reply) (after left : World) → (one : Takes R (left_to ms v) c reply after) → (two : Takes S (left_to ms w) c answer left) → Agree (grants_in one.used) (grants_in two.used) → answers_in reply ≡ answers_in answer
        → AreTold c (R ≡ S) reply answer after left
    command_alike reply answer after left one two granted k =
        let m : Match ⊥ one.used two.used =
        told_same {A = Stepped} (λ a. a.left) (λ is a. goes is ≡ Some a) (λ js b. goes_too js ≡ Some b) pairs one.used two.used
        (λ rest. (common_step c (record { reply = reply; world = after; left = rest }), ap (option_map (common_step c)) (one.tells rest), refl))
        (λ rest. (common_step c (record { reply = answer; world = left; left = rest }), ap (option_map (common_step c)) (two.tells rest), refl)) granted (one.answers ∙ k ∙ sym two.answers) in
        let whole : Match ⊥ (one.used ++ []) (two.used ++ []) = match_then ⊥ one.used two.used [] [] m (λ x. x) in
        told_by c (R ≡ S) (step R (left_to ms v) c (one.used ++ [])) (step R (left_to ms w) c (two.used ++ []))
        (record { reply = reply; world = after; left = [] }) (record { reply = answer; world = left; left = [] }) (both ⊥ (one.used ++ []) (two.used ++ []) whole)
        (one.tells []) (hidden_same R S (left_to ms w) c sees (two.used ++ []) ∙ ap (option_map (common_step c)) (two.tells []))
        (λ e. ap (λ L. step L (left_to ms w) c (two.used ++ [])) e ∙ two.tells [])

  between_commands : (w u : World) (c : Command) (reply answer : Reply) (after left : World) → AreBetween w u → TakenAlike R S w u c reply answer after left → AreTold c (R ≡ S) reply answer after left
  between_commands w u c reply answer after left b h =
      let here : w ≡ left_to w.modules (running w []) = begun_from w in
      let there : u ≡ left_to w.modules (running u []) = begun_from u ∙ ap (λ ss. left_to ss (running u [])) b.modules in
      let one = subst (λ x. (t : Takes R x c reply after) × Agree (grants_in t.used) (grants_in h.other.used)) here (h.one, h.granted) in
      let two = subst (λ x. (t : Takes S x c answer left) × Agree (grants_in one.0.used) (grants_in t.used)) there (h.other, one.1) in
      command_alike w.modules b.good b.by (running w []) (running u []) b.counted b.alike c (sees_again R S w (running u []) c h.sees) reply answer after left one.0 two.0 two.1 h.answers

-- ---- lists that change

-- what is left of a registry's list is one
registered_left : (R : Grouped) (o : Option Group) (ms : ModuleStates) → IsRegistered R.entries → IsRegistered (list_of R (removal_of o R ms)).entries
registered_left R None ms h = h
registered_left R (Some g) ms h = by (is_named_outside R.entries g || is_used R.entries g ms)
  where
    by : (b : Bool) → IsRegistered (list_of R (if b then InUse else Removed (without_group g R))).entries
    by true = h
    by false = record {
      values = only_values (left_outside g) R.entries h.values;
      few = subst (λ k. k ≤ 1024) (sym (length-only (left_outside g) R.entries)) h.few;
    }

registered_after : (R : Grouped) (w : World) (c : Command) → IsRegistered R.entries → IsRegistered (list_after R w c).entries
registered_after R w (NewModule name mask) h = h
registered_after R w (SetMask name mask) h = h
registered_after R w (AddSection name text) h = h
registered_after R w (Build name budget) h = h
registered_after R w (Bind name index exporter decl) h = h
registered_after R w (Unbind name index) h = h
registered_after R w (Call name decl args budget) h = h
registered_after R w (Discard name) h = h
registered_after R w (RemoveGroup name) h = registered_left R (group_named name R) w.modules h

-- a command does the same to one list, whatever the numbers of script objects
same_after : (R S : Grouped) (w u : World) (c : Command) → R ≡ S → u.modules ≡ w.modules → list_after R w c ≡ list_after S u c
same_after R S w u (NewModule name mask) e m = e
same_after R S w u (SetMask name mask) e m = e
same_after R S w u (AddSection name text) e m = e
same_after R S w u (Build name budget) e m = e
same_after R S w u (Bind name index exporter decl) e m = e
same_after R S w u (Unbind name index) e m = e
same_after R S w u (Call name decl args budget) e m = e
same_after R S w u (Discard name) e m = e
same_after R S w u (RemoveGroup name) e m = λ i. list_of (e i) (removal name (e i) (sym m i))

-- ---- commands in turn

pub all_alike : (R S : Grouped) → IsRegistered R.entries → (cs : List BoundedCommand) (rs ss : List Reply) (w u v x : World) → AreBetween w u → BothInTurn TakenAlike R S w u cs rs ss v x → common_in cs rs ≡ common_in cs ss
all_alike R S h [] [] [] w u v x b d = refl
all_alike R S h [] [] (s ∷ ss) w u v x b d = absurd d
all_alike R S h [] (r ∷ rs) ss w u v x b d = absurd d
all_alike R S h (c ∷ cs) [] ss w u v x b d = absurd d
all_alike R S h (c ∷ cs) (r ∷ rs) [] w u v x b d = absurd d
all_alike R S h (c ∷ cs) (r ∷ rs) (s ∷ ss) w u v x b d =
    let before = bounded_by c.bounds w in
    let again = bounded_by c.bounds u in
    let one = between_commands R S h.values h.few before again c.command r s d.0 d.1 (within_both c.bounds w u b) d.2 in
    ap₂ (λ y ys. y ∷ ys) one.same
    (all_alike (list_after R before c.command) (list_after S again c.command) (registered_after R before c.command h) cs rs ss d.0 d.1 v x one.between d.3)

-- over one list
pub all_same : (R S : Grouped) → R ≡ S → IsRegistered R.entries → (cs : List BoundedCommand) (rs ss : List Reply) (w u v x : World) → AreBetween w u → BothInTurn TakenAlike R S w u cs rs ss v x → rs ≡ ss
all_same R S e h [] [] [] w u v x b d = refl
all_same R S e h [] [] (s ∷ ss) w u v x b d = absurd d
all_same R S e h [] (r ∷ rs) ss w u v x b d = absurd d
all_same R S e h (c ∷ cs) [] ss w u v x b d = absurd d
all_same R S e h (c ∷ cs) (r ∷ rs) [] w u v x b d = absurd d
all_same R S e h (c ∷ cs) (r ∷ rs) (s ∷ ss) w u v x b d =
    let before = bounded_by c.bounds w in
    let again = bounded_by c.bounds u in
    let one = between_commands R S h.values h.few before again c.command r s d.0 d.1 (within_both c.bounds w u b) d.2 in
    ap₂ (λ y ys. y ∷ ys) (one.whole e)
    (all_same (list_after R before c.command) (list_after S again c.command) (same_after R S before again c.command e b.modules) (registered_after R before c.command h)
    cs rs ss d.0 d.1 v x one.between d.3)

-- ---- what was granted was told alike

first_or : {A : Type 0} → A → List A → A
first_or d [] = d
first_or d (x ∷ xs) = x

later : {A : Type 0} → List A → List A
later [] = []
later (x ∷ xs) = xs

granted_both : (R S : Grouped) (w u : World) (c : Command) (r s : Reply) (m n : World) → Grants R w c r m → Grants S u c s n → SeesSame R S w c → answers_in r ≡ answers_in s → TakenAlike R S w u c r s m n
granted_both R S w u c r s m n one other sees k =
    record { one = one.0; other = other.0; sees = sees; granted = granted_agree one.0.used other.0.used one.1 other.1; answers = k }

together : (R S : Grouped) (cs : List BoundedCommand) (rs ss : List Reply) (w u v x : World) → BothInTurn BothGranted R S w u cs rs ss v x → list_map answers_in rs ≡ list_map answers_in ss
    → BothInTurn TakenAlike R S w u cs rs ss v x
unfolding first_or later
together R S [] [] [] w u v x d k = d
together R S [] [] (s ∷ ss) w u v x d k = absurd d
together R S [] (r ∷ rs) ss w u v x d k = absurd d
together R S (c ∷ cs) [] ss w u v x d k = absurd d
together R S (c ∷ cs) (r ∷ rs) [] w u v x d k = absurd d
together R S (c ∷ cs) (r ∷ rs) (s ∷ ss) w u v x d k =
    let before = bounded_by c.bounds w in
    let again = bounded_by c.bounds u in (
      d.0,
      d.1,
      granted_both R S before again c.command r s d.0 d.1 d.2.0 d.2.1 d.2.2 (ap (first_or []) k),
      together (list_after R before c.command) (list_after S again c.command) cs rs ss d.0 d.1 v x d.3 (ap later k),
    )

-- ---- the law

no_link : (m i : ℕ) (g : Routine) → link_at [] m i ≡ Some g → ⊥
no_link m i g e = let x : ⊥ = cc in x

empty_between : AreBetween no_modules no_modules
empty_between = record {
  modules = refl;
  by = unchanged;
  alike = record {
    objects = record { has = λ n. get-empty nat_cmp n ∙ ap (renamed_record unchanged) (sym (get-empty nat_cmp n)); size = refl };
    hosts = refl;
    globals = refl;
    events = refl;
    reserved = refl;
    spent = refl;
    bounds = refl;
    inputs = refl;
  };
  counted = nothing_counted (running no_modules []) refl (λ d k. ap count_of (get-empty {X = ℕ} nat_cmp k)) (λ x. refl);
  good = record { places = tt; linked = record { each = λ m i g e. absurd (no_link m i g e) } };
}

pub told_alike_reply_alike : ToldAlikeReplyAlike
told_alike_reply_alike R S cs rs ss v w registered d = all_alike R S registered cs rs ss no_modules no_modules v w empty_between d

pub told_alike_reply_same : ToldAlikeReplySame
told_alike_reply_same R cs rs ss v w registered d = all_same R R refl registered cs rs ss no_modules no_modules v w empty_between d

pub hidden_does_not_matter : HiddenDoesNotMatter
hidden_does_not_matter R S cs rs ss v w registered d k = told_alike_reply_alike R S cs rs ss v w registered (together R S cs rs ss no_modules no_modules v w d k)

-- ---- the law over one list

sees_itself : (R : Grouped) (w : World) (c : Command) → SeesSame R R w c
sees_itself R w (NewModule name mask) = tt
sees_itself R w (SetMask name mask) = tt
sees_itself R w (AddSection name text) = tt
sees_itself R w (Build name budget) = λ i e b. refl
sees_itself R w (Bind name index exporter decl) = tt
sees_itself R w (Unbind name index) = tt
sees_itself R w (Call name decl args budget) = tt
sees_itself R w (Discard name) = tt
sees_itself R w (RemoveGroup name) = tt

-- The list is the same in both runs, since a removal looks at modules alone, and these are.
all_decided : (R S : Grouped) → R ≡ S → IsRegistered R.entries → (cs : List BoundedCommand) (rs ss : List Reply) (w u v x : World) → AreBetween w u → InTurn Grants R w cs rs v → InTurn Grants S u cs ss x
    → list_map answers_in rs ≡ list_map answers_in ss → rs ≡ ss
unfolding first_or later
all_decided R S e h [] [] [] w u v x b d f k = refl
all_decided R S e h [] [] (s ∷ ss) w u v x b d f k = absurd f
all_decided R S e h [] (r ∷ rs) ss w u v x b d f k = absurd d
all_decided R S e h (c ∷ cs) [] ss w u v x b d f k = absurd d
all_decided R S e h (c ∷ cs) (r ∷ rs) [] w u v x b d f k = absurd f
all_decided R S e h (c ∷ cs) (r ∷ rs) (s ∷ ss) w u v x b d f k =
    let before = bounded_by c.bounds w in
    let again = bounded_by c.bounds u in
    let sees = subst (λ L. SeesSame R L before c.command) e (sees_itself R before c.command) in
    let alike = granted_both R S before again c.command r s d.0 f.0 d.1 f.1 sees (ap (first_or []) k) in
    let one = between_commands R S h.values h.few before again c.command r s d.0 f.0 (within_both c.bounds w u b) alike in
    ap₂ (λ y ys. y ∷ ys) (one.whole e)
    (all_decided (list_after R before c.command) (list_after S again c.command) (same_after R S before again c.command e b.modules) (registered_after R before c.command h)
    cs rs ss d.0 f.0 v x one.between d.2 f.2 (ap later k))

pub answers_decide : AnswersDecide
answers_decide R cs rs ss v w registered d e k = all_decided R R refl registered cs rs ss no_modules no_modules v w empty_between d e k
