-- A reader looks no further than the token at which it stops: two lists that agree up to there are read alike.
use Rattle.std.proofs.Common.{◌≡◌, ℕ, zero, suc, ◌≤◌, ◌⊎◌, inl, inr, Bool, true, false, List, [], ◌∷◌, ◌++◌, length, Some, None, Ok, Err, refl, ap, sym, subst, arith}
use Rattle.ang_lex.specs.declared.token.Token.{Token}
use Rattle.ang_lex.specs.declared.token.TokenKind.{TokenKind}
use Rattle.ang_parse_read.specs.Read.{at, deep, Parser, Outcome, and_then, pure, ◌>>=◌, refuse, Choice, given, chosen, look, Turn, turned, repeat}

abbrev pub Filled : List Token → Type 0
Filled [] = ⊥
Filled (k ∷ u) = Unit {0}

-- On one list more fuel changes nothing.
abbrev pub Kept : {A : Type 0} → Outcome A → Outcome A → Type 0
Kept (Ok p) o = o ≡ Ok p
Kept (Err (at s)) o = o ≡ Err (at s)
Kept (Err deep) o = Unit {0}

bind_kept : {A B : Type 0} (o o' : Outcome A) (f g : A → Parser B) → Kept o o' → ((x : A) (s : List Token) → Kept (f x s) (g x s)) → Kept (and_then o f) (and_then o' g)
bind_kept (Ok p) o' f g h k = subst (λ v. Kept (f p.0 p.1) (and_then v g)) (sym h) (k p.0 p.1)
bind_kept (Err (at s)) o' f g h k = ap (λ v. and_then v g) h
bind_kept (Err deep) o' f g h k = tt

-- What follows the common tokens in the one list and in the other.
module _ (r z : List Token) where
  -- what comes out lies in r
  abbrev pub Past : {A : Type 0} → Outcome A → Type 0
  Past (Ok p) = length p.1 ≤ length r
  Past (Err (at s)) = length s ≤ length r
  Past (Err deep) = Unit {0}

  pub record Common {A : Type 0} (s : List Token) (o : Outcome A) (make : List Token → Outcome A) : Type 0 where
    pub rest : List Token
    pub filled : Filled rest
    pub is : s ≡ rest ++ r
    pub same : o ≡ make (rest ++ z)

  abbrev pub Agree : {A : Type 0} → Outcome A → Outcome A → Type 0
  Agree (Ok p) o = Common p.1 o (λ s. Ok (p.0, s)) ⊎ (length p.1 ≤ length r)
  Agree (Err (at s)) o = Common s o (λ s. Err (at s)) ⊎ (length s ≤ length r)
  Agree (Err deep) o = Unit {0}

  past_agrees : {A : Type 0} (o o' : Outcome A) → Past o → Agree o o'
  past_agrees (Ok p) o' h = inr h
  past_agrees (Err (at s)) o' h = inr h
  past_agrees (Err deep) o' h = tt

  pub record DependsOnPrefix {A : Type 0} (p q : Parser A) : Type 0 where
    pub common : (c : List Token) → Filled c → Agree (p (c ++ r)) (q (c ++ z))
    pub past : (s : List Token) → length s ≤ length r → Past (p s)
    pub same : (s : List Token) → Kept (p s) (q s)

  pub prefix_pure : {A : Type 0} (x : A) → DependsOnPrefix (pure x) (pure x)
  prefix_pure x = record { common = λ c f. inl (record { rest = c; filled = f; is = refl; same = refl }); past = λ s h. h; same = λ s. refl }

  pub prefix_refuse : {A : Type 0} → DependsOnPrefix {A = A} refuse refuse
  prefix_refuse = record { common = λ c f. inl (record { rest = c; filled = f; is = refl; same = refl }); past = λ s h. h; same = λ s. refl }

  bind_past : {A B : Type 0} (o : Outcome A) (f : A → Parser B) → Past o → ((x : A) (s : List Token) → length s ≤ length r → Past (f x s)) → Past (and_then o f)
  bind_past (Ok p) f h k = k p.0 p.1 h
  bind_past (Err (at s)) f h k = h
  bind_past (Err deep) f h k = tt

  bind_agrees : {A B : Type 0} (o o' : Outcome A) (f g : A → Parser B) → Agree o o' → ((x : A) → DependsOnPrefix (f x) (g x)) → Agree (and_then o f) (and_then o' g)
  bind_agrees (Ok p) o' f g (inl h) k =
      subst (λ v. Agree (f p.0 v) (and_then o' g)) (sym h.is) (subst (λ v. Agree (f p.0 (h.rest ++ r)) (and_then v g)) (sym h.same) ((k p.0).common h.rest h.filled))
  bind_agrees (Ok p) o' f g (inr h) k = past_agrees (f p.0 p.1) (and_then o' g) ((k p.0).past p.1 h)
  bind_agrees (Err (at s)) o' f g (inl h) k = inl (record { rest = h.rest; filled = h.filled; is = h.is; same = ap (λ v. and_then v g) h.same })
  bind_agrees (Err (at s)) o' f g (inr h) k = inr h
  bind_agrees (Err deep) o' f g h k = tt

  pub prefix_bind : {A B : Type 0} (p q : Parser A) (f g : A → Parser B) → DependsOnPrefix p q → ((x : A) → DependsOnPrefix (f x) (g x)) → DependsOnPrefix (p >>= f) (q >>= g)
  prefix_bind p q f g h k = record {
    common = λ c filled. bind_agrees (p (c ++ r)) (q (c ++ z)) f g (h.common c filled) k;
    past = λ s le. bind_past (p s) f (h.past s le) (λ x u l. (k x).past u l);
    same = λ s. bind_kept (p s) (q s) f g (h.same s) (λ x u. (k x).same u);
  }

  -- two choices of one kind of token
  abbrev pub Both : {A : Type 0} → Choice A → Choice A → Type 0
  Both None None = Unit {0}
  Both (Some p) (Some q) = (t : Token) → DependsOnPrefix (p t) (q t)
  Both _ _ = ⊥

  pub both_given : {A : Type 0} (b : Bool) (p q : Token → Parser A) → ((t : Token) → DependsOnPrefix (p t) (q t)) → Both (given b p) (given b q)
  both_given true p q h = h
  both_given false p q h = tt

  chosen_agrees : {A : Type 0} (a b : Choice A) (t : Token) (c : List Token) (o o' : Outcome A) → Both a b → Agree o o' → Agree (chosen a t (c ++ r) o) (chosen b t (c ++ z) o')
  chosen_agrees None None t c o o' h k = k
  chosen_agrees None (Some q) t c o o' h k = absurd h
  chosen_agrees (Some p) None t c o o' h k = absurd h
  chosen_agrees (Some p) (Some q) t [] o o' h k = past_agrees (p t r) (q t z) ((h t).past r (omega arith))
  chosen_agrees (Some p) (Some q) t (k ∷ c) o o' h z = (h t).common (k ∷ c) tt

  chosen_past : {A : Type 0} (a b : Choice A) (t : Token) (s : List Token) (o : Outcome A) → Both a b → length s ≤ length r → Past o → Past (chosen a t s o)
  chosen_past None b t s o h le k = k
  chosen_past (Some p) None t s o h le k = absurd h
  chosen_past (Some p) (Some q) t s o h le k = (h t).past s le

  look_common : {A : Type 0} (f g : TokenKind → Choice A) (p q : Parser A) → ((kind : TokenKind) → Both (f kind) (g kind)) → DependsOnPrefix p q → (c : List Token) → Filled c → Agree (look f p (c ++ r)) (look g q (c ++ z))
  look_common f g p q h k [] filled = absurd filled
  look_common f g p q h k (t ∷ c) filled = chosen_agrees (f t.kind) (g t.kind) t c (p (t ∷ c ++ r)) (q (t ∷ c ++ z)) (h t.kind) (k.common (t ∷ c) tt)

  look_past : {A : Type 0} (f g : TokenKind → Choice A) (p q : Parser A) → ((kind : TokenKind) → Both (f kind) (g kind)) → DependsOnPrefix p q → (s : List Token) → length s ≤ length r → Past (look f p s)
  look_past f g p q h k [] le = k.past [] le
  look_past f g p q h k (t ∷ u) le = chosen_past (f t.kind) (g t.kind) t u (p (t ∷ u)) (h t.kind) (omega arith) (k.past (t ∷ u) le)

  chosen_kept : {A : Type 0} (a b : Choice A) (t : Token) (s : List Token) (o o' : Outcome A) → Both a b → Kept o o' → Kept (chosen a t s o) (chosen b t s o')
  chosen_kept None None t s o o' h k = k
  chosen_kept None (Some q) t s o o' h k = absurd h
  chosen_kept (Some p) None t s o o' h k = absurd h
  chosen_kept (Some p) (Some q) t s o o' h k = (h t).same s

  look_kept : {A : Type 0} (f g : TokenKind → Choice A) (p q : Parser A) → ((kind : TokenKind) → Both (f kind) (g kind)) → DependsOnPrefix p q → (s : List Token) → Kept (look f p s) (look g q s)
  look_kept f g p q h k [] = k.same []
  look_kept f g p q h k (t ∷ u) = chosen_kept (f t.kind) (g t.kind) t u (p (t ∷ u)) (q (t ∷ u)) (h t.kind) (k.same (t ∷ u))

  pub prefix_look : {A : Type 0} (f g : TokenKind → Choice A) (p q : Parser A) → ((kind : TokenKind) → Both (f kind) (g kind)) → DependsOnPrefix p q → DependsOnPrefix (look f p) (look g q)
  prefix_look f g p q h k = record { common = look_common f g p q h k; past = look_past f g p q h k; same = look_kept f g p q h k }

  prefix_turned : {A : Type 0} (f g : A → Parser A) → ((x : A) → DependsOnPrefix (f x) (g x)) → (y : A × Bool) → DependsOnPrefix (turned f y) (turned g y)
  prefix_turned f g h (x, true) = h x
  prefix_turned f g h (x, false) = prefix_pure x

  pub prefix_repeat : {A : Type 0} (once again : A → Turn A) → ((x : A) → DependsOnPrefix (once x) (again x)) → (m n : ℕ) → m ≤ n → (x : A) → DependsOnPrefix (repeat once m x) (repeat again n x)
  unfolding repeat
  prefix_repeat once again h zero n le x = record { common = λ c f. tt; past = λ s le. tt; same = λ s. tt }
  prefix_repeat once again h (suc m) zero le x = absurd (omega arith)
  prefix_repeat once again h (suc m) (suc n) le x = prefix_bind (once x) (again x) (turned (repeat once m)) (turned (repeat again n)) (h x) (prefix_turned (repeat once m) (repeat again n) (prefix_repeat once again h m n (omega arith)))
