-- Readers of expressions, and the tokens at which they stop or go on.
use Rattle.std.proofs.Common.{◌≡◌, ℕ, suc, ◌+◌, ◌-◌, ◌≤◌, Bool, true, false, List, [], ◌∷◌, Some, None, Ok, refl, ap, ◌∙◌, arith}
use Rattle.ang_lex.specs.declared.token.Token.{Token}
use Rattle.ang_lex.specs.declared.token.TokenKind.{TokenKind}
use Rattle.ang_lex.specs.declared.token.TokenKind.TheVariants as k
use Rattle.ang_tree.specs.declared.type_name.TypeName.{TypeName}
use Rattle.ang_tree.specs.Kinds.{Is, IsA, literal_kind, primitive_kind, prefix_kind, step_kind, assignment_kind, precedence}
use Rattle.ang_tree.specs.Tree.{Tree, Args, Trees, literal, name, call, scoped_call, scoped_name, cast, convert, group, postfix, member, method_call, prefix, binary, conditional, assignment, arguments, none, added}
use Rattle.ang_parse_read.specs.Read.{Parser, and_then, pure, ◌>>=◌, refuse, given, chosen, look, Turn}
use Rattle.ang_parse_read.specs.Tokens.{is_name, is_left_paren, is_right_paren, is_less, is_greater, is_colon}
use Rattle.ang_parse_read.proofs.Tokens.{look_is, look_at, a_token_is, begins}
use Rattle.ang_parse_expr.specs.ReadType.{a_type}
use Rattle.ang_parse_expr.specs.ReadExpr as r
use Rattle.ang_parse_expr.proofs.Grip.{grip, grip_of, opens, opens_by, not_bound, bound, no_assignment}

abbrev pub is_comma : TokenKind → Bool
is_comma k.Comma = true
is_comma _ = false

-- where a list of expressions ends
pub record EndsList (ts : List Token) : Type 0 where
  pub low : grip ts ≤ 0
  pub no_comma : begins is_comma ts ≡ false

module _ (e : ℕ → Parser Tree) (n : ℕ) where
  -- ---- lists

  others_stop_by : (es : Trees) (kind : TokenKind) → is_comma kind ≡ false → r.others_by e n es kind ≡ None
  others_stop_by es k.Comma h = absurd cc
  others_stop_by es _ h = refl

  pub others_stop : (es : Trees) (ts : List Token) → begins is_comma ts ≡ false → r.other_expression e n es ts ≡ Ok ((es, false), ts)
  unfolding r.other_expression
  others_stop es [] h = refl
  others_stop es (t ∷ u) h = look_at (r.others_by e n es) (pure (es, false)) None t u (others_stop_by es t.kind h)

  pub others_go_on : (es : Trees) (comma : Token) (x : Tree) (ts us : List Token) → Is k.Comma comma → e 0 ts ≡ Ok (x, us) → r.other_expression e n es (comma ∷ ts) ≡ Ok ((added es (Some comma) x, true), us)
  unfolding r.other_expression r.another
  others_go_on es comma x ts us is h = look_is (r.others_by e n es) (pure (es, false)) k.Comma comma ts is ∙ ap (λ v. and_then v (λ x. pure (added es (Some comma) x, true))) h

  pub args_none : (left right : Token) (ts : List Token) → Is k.RightParen right → r.args e n left (right ∷ ts) ≡ Ok (arguments left none right, ts)
  unfolding r.args
  args_none left right ts is = look_is (r.args_by e n left) (r.some_args e n left) k.RightParen right ts is

  pub args_some : (left right : Token) (es : Trees) (ts us : List Token) → Is k.RightParen right → r.expressions e n ts ≡ Ok (es, right ∷ us) → r.some_args e n left ts ≡ Ok (arguments left es right, us)
  unfolding r.some_args
  args_some left right es ts us is h = rw (h, a_token_is is_right_paren right us (ap is_right_paren is)) refl

  -- ---- primary

  literal_by : (kind : TokenKind) → literal_kind kind ≡ true → r.primary_by e n kind ≡ Some (λ t. pure (literal t))
  literal_by k.Number h = refl
  literal_by k.True h = refl
  literal_by k.False h = refl
  literal_by k.Null h = refl
  literal_by k.This h = refl
  literal_by _ h = absurd cc

  pub literal_done : (t : Token) (ts : List Token) → IsA literal_kind t → r.primary e n (t ∷ ts) ≡ Ok (literal t, ts)
  unfolding r.primary
  literal_done t ts h = look_at (r.primary_by e n) refuse (Some (λ t. pure (literal t))) t ts (literal_by t.kind h)

  named_stops_by : (x : Token) (kind : TokenKind) → opens_by kind ≡ false → r.named_by e n x kind ≡ None
  named_stops_by x k.LeftParen h = absurd cc
  named_stops_by x k.Scope h = absurd cc
  named_stops_by x _ h = refl

  named_stops : (x : Token) (ts : List Token) → opens ts ≡ false → r.named e n x ts ≡ Ok (name x, ts)
  unfolding r.named
  named_stops x [] h = refl
  named_stops x (t ∷ u) h = look_at (r.named_by e n x) (pure (name x)) None t u (named_stops_by x t.kind h)

  name_at : (x : Token) (ts : List Token) → Is k.Name x → r.primary e n (x ∷ ts) ≡ r.named e n x ts
  unfolding r.primary
  name_at x ts is = look_is (r.primary_by e n) refuse k.Name x ts is

  pub name_done : (x : Token) (ts : List Token) → Is k.Name x → opens ts ≡ false → r.primary e n (x ∷ ts) ≡ Ok (name x, ts)
  name_done x ts is h = name_at x ts is ∙ named_stops x ts h

  called : (x left : Token) (es : Args) (ts us : List Token) → Is k.LeftParen left → r.args e n left ts ≡ Ok (es, us) → r.named e n x (left ∷ ts) ≡ Ok (call x es, us)
  unfolding r.named
  called x left es ts us is h = look_is (r.named_by e n x) (pure (name x)) k.LeftParen left ts is ∙ ap (λ v. and_then v (λ es. pure (call x es))) h

  pub call_done : (x left : Token) (es : Args) (ts us : List Token) → Is k.Name x → Is k.LeftParen left → r.args e n left ts ≡ Ok (es, us) → r.primary e n (x ∷ left ∷ ts) ≡ Ok (call x es, us)
  call_done x left es ts us X L h = name_at x (left ∷ ts) X ∙ called x left es ts us L h

  scoped_invoked : (c scope x left : Token) (es : Args) (ts us : List Token) → Is k.LeftParen left → r.args e n left ts ≡ Ok (es, us)
      → look (r.scoped_by e n c scope x) (pure (scoped_name c scope x)) (left ∷ ts) ≡ Ok (scoped_call c scope x es, us)
  scoped_invoked c scope x left es ts us is h = look_is (r.scoped_by e n c scope x) (pure (scoped_name c scope x)) k.LeftParen left ts is ∙ ap (λ v. and_then v (λ es. pure (scoped_call c scope x es))) h

  scoped_called : (c scope x left : Token) (es : Args) (ts us : List Token) → Is k.Name x → Is k.LeftParen left → r.args e n left ts ≡ Ok (es, us) → r.scoped e n c scope (x ∷ left ∷ ts) ≡ Ok (scoped_call c scope x es, us)
  unfolding r.scoped
  scoped_called c scope x left es ts us X L h = ap (λ v. and_then v (λ x. look (r.scoped_by e n c scope x) (pure (scoped_name c scope x)))) (a_token_is is_name x (left ∷ ts) (ap is_name X)) ∙ scoped_invoked c scope x left es ts us L h

  scoped_stops_by : (c scope x : Token) (kind : TokenKind) → opens_by kind ≡ false → r.scoped_by e n c scope x kind ≡ None
  scoped_stops_by c scope x k.LeftParen h = absurd cc
  scoped_stops_by c scope x _ h = refl

  scoped_ends : (c scope x : Token) (ts : List Token) → opens ts ≡ false → look (r.scoped_by e n c scope x) (pure (scoped_name c scope x)) ts ≡ Ok (scoped_name c scope x, ts)
  scoped_ends c scope x [] h = refl
  scoped_ends c scope x (t ∷ u) h = look_at (r.scoped_by e n c scope x) (pure (scoped_name c scope x)) None t u (scoped_stops_by c scope x t.kind h)

  scoped_named : (c scope x : Token) (ts : List Token) → Is k.Name x → opens ts ≡ false → r.scoped e n c scope (x ∷ ts) ≡ Ok (scoped_name c scope x, ts)
  unfolding r.scoped
  scoped_named c scope x ts is h = ap (λ v. and_then v (λ x. look (r.scoped_by e n c scope x) (pure (scoped_name c scope x)))) (a_token_is is_name x ts (ap is_name is)) ∙ scoped_ends c scope x ts h

  scope_at : (c scope : Token) (ts : List Token) → Is k.Scope scope → r.named e n c (scope ∷ ts) ≡ r.scoped e n c scope ts
  unfolding r.named
  scope_at c scope ts is = look_is (r.named_by e n c) (pure (name c)) k.Scope scope ts is

  pub scoped_done : (c scope x left : Token) (es : Args) (ts us : List Token) → Is k.Name c → Is k.Scope scope → Is k.Name x → Is k.LeftParen left → r.args e n left ts ≡ Ok (es, us)
      → r.primary e n (c ∷ scope ∷ x ∷ left ∷ ts) ≡ Ok (scoped_call c scope x es, us)
  scoped_done c scope x left es ts us C S X L h = name_at c (scope ∷ x ∷ left ∷ ts) C ∙ scope_at c scope (x ∷ left ∷ ts) S ∙ scoped_called c scope x left es ts us X L h

  pub scoped_name_done : (c scope x : Token) (ts : List Token) → Is k.Name c → Is k.Scope scope → Is k.Name x → opens ts ≡ false → r.primary e n (c ∷ scope ∷ x ∷ ts) ≡ Ok (scoped_name c scope x, ts)
  scoped_name_done c scope x ts C S X h = name_at c (scope ∷ x ∷ ts) C ∙ scope_at c scope (x ∷ ts) S ∙ scoped_named c scope x ts X h

  pub inside_done : (x : Tree) (right : Token) (ts us : List Token) → Is k.RightParen right → e 0 ts ≡ Ok (x, right ∷ us) → r.inside e n ts ≡ Ok ((x, right), us)
  unfolding r.inside
  inside_done x right ts us is h = rw (h, a_token_is is_right_paren right us (ap is_right_paren is)) refl

  pub group_done : (left right : Token) (x : Tree) (ts us : List Token) → Is k.LeftParen left → r.inside e n ts ≡ Ok ((x, right), us) → r.primary e n (left ∷ ts) ≡ Ok (group left x right, us)
  unfolding r.primary r.grouped
  group_done left right x ts us is h = look_is (r.primary_by e n) refuse k.LeftParen left ts is ∙ ap (λ v. and_then v (λ i. pure (group left i.0 i.1))) h

  primitive_by : (kind : TokenKind) → primitive_kind kind ≡ true → r.primary_by e n kind ≡ Some (r.converted e n)
  primitive_by (k.Primitive p) h = refl
  primitive_by _ h = absurd cc

  converted_done : (p left right : Token) (x : Tree) (ts us : List Token) → Is k.LeftParen left → r.inside e n ts ≡ Ok ((x, right), us) → r.converted e n p (left ∷ ts) ≡ Ok (convert p left x right, us)
  unfolding r.converted
  converted_done p left right x ts us is h = rw (a_token_is is_left_paren left ts (ap is_left_paren is), h) refl

  primitive_at : (p : Token) (ts : List Token) → IsA primitive_kind p → r.primary e n (p ∷ ts) ≡ r.converted e n p ts
  unfolding r.primary
  primitive_at p ts h = look_at (r.primary_by e n) refuse (Some (r.converted e n)) p ts (primitive_by p.kind h)

  pub convert_done : (p left right : Token) (x : Tree) (ts us : List Token) → IsA primitive_kind p → Is k.LeftParen left → r.inside e n ts ≡ Ok ((x, right), us) → r.primary e n (p ∷ left ∷ ts) ≡ Ok (convert p left x right, us)
  convert_done p left right x ts us P L h = primitive_at p (left ∷ ts) P ∙ converted_done p left right x ts us L h

  casted_done : (word less greater left right : Token) (y : TypeName) (x : Tree) (ts us vs : List Token) → Is k.Less less → Is k.Greater greater → Is k.LeftParen left
      → a_type ts ≡ Ok (y, greater ∷ left ∷ us) → r.inside e n us ≡ Ok ((x, right), vs) → r.casted e n word (less ∷ ts) ≡ Ok (cast word less y greater left x right, vs)
  unfolding r.casted
  casted_done word less greater left right y x ts us vs S G L t h =
      rw (a_token_is is_less less ts (ap is_less S), t, a_token_is is_greater greater (left ∷ us) (ap is_greater G), a_token_is is_left_paren left us (ap is_left_paren L), h) refl

  cast_at : (word : Token) (ts : List Token) → Is k.Cast word → r.primary e n (word ∷ ts) ≡ r.casted e n word ts
  unfolding r.primary
  cast_at word ts is = look_is (r.primary_by e n) refuse k.Cast word ts is

  pub cast_done : (word less greater left right : Token) (y : TypeName) (x : Tree) (ts us vs : List Token) → Is k.Cast word → Is k.Less less → Is k.Greater greater → Is k.LeftParen left
      → a_type ts ≡ Ok (y, greater ∷ left ∷ us) → r.inside e n us ≡ Ok ((x, right), vs) → r.primary e n (word ∷ less ∷ ts) ≡ Ok (cast word less y greater left x right, vs)
  cast_done word less greater left right y x ts us vs W S G L t h = cast_at word (less ∷ ts) W ∙ casted_done word less greater left right y x ts us vs S G L t h

  -- ---- post

  suffix_stops_by : (x : Tree) (kind : TokenKind) → grip_of kind ≤ 13 → r.suffix_by e n x kind ≡ None
  suffix_stops_by x k.Increment h = absurd (omega arith)
  suffix_stops_by x k.Decrement h = absurd (omega arith)
  suffix_stops_by x k.Dot h = absurd (omega arith)
  suffix_stops_by x _ h = refl

  pub suffix_stops : (x : Tree) (ts : List Token) → grip ts ≤ 13 → r.suffix e n x ts ≡ Ok ((x, false), ts)
  unfolding r.suffix
  suffix_stops x [] h = refl
  suffix_stops x (t ∷ u) h = look_at (r.suffix_by e n x) (pure (x, false)) None t u (suffix_stops_by x t.kind h)

  abbrev stepped : Tree → Token → Turn Tree
  stepped x op = pure (postfix x op, true)

  step_by : (x : Tree) (kind : TokenKind) → step_kind kind ≡ true → r.suffix_by e n x kind ≡ Some (stepped x)
  step_by x k.Increment h = refl
  step_by x k.Decrement h = refl
  step_by x _ h = absurd cc

  pub step_done : (x : Tree) (op : Token) (ts : List Token) → IsA step_kind op → r.suffix e n x (op ∷ ts) ≡ Ok ((postfix x op, true), ts)
  unfolding r.suffix
  step_done x op ts h = look_at (r.suffix_by e n x) (pure (x, false)) (Some (stepped x)) op ts (step_by x op.kind h)

  pub dot_done : (x y : Tree) (dot : Token) (ts us : List Token) → Is k.Dot dot → r.membered e n x dot ts ≡ Ok (y, us) → r.suffix e n x (dot ∷ ts) ≡ Ok ((y, true), us)
  unfolding r.suffix
  dot_done x y dot ts us is h = look_is (r.suffix_by e n x) (pure (x, false)) k.Dot dot ts is ∙ ap (λ v. and_then v (λ m. pure (m, true))) h

  membered_stops_by : (x : Tree) (dot m : Token) (kind : TokenKind) → opens_by kind ≡ false → r.membered_by e n x dot m kind ≡ None
  membered_stops_by x dot m k.LeftParen h = absurd cc
  membered_stops_by x dot m _ h = refl

  membered_ends : (x : Tree) (dot m : Token) (ts : List Token) → opens ts ≡ false → look (r.membered_by e n x dot m) (pure (member x dot m)) ts ≡ Ok (member x dot m, ts)
  membered_ends x dot m [] h = refl
  membered_ends x dot m (t ∷ u) h = look_at (r.membered_by e n x dot m) (pure (member x dot m)) None t u (membered_stops_by x dot m t.kind h)

  pub member_done : (x : Tree) (dot m : Token) (ts : List Token) → Is k.Name m → opens ts ≡ false → r.membered e n x dot (m ∷ ts) ≡ Ok (member x dot m, ts)
  unfolding r.membered
  member_done x dot m ts is h = ap (λ v. and_then v (λ m. look (r.membered_by e n x dot m) (pure (member x dot m)))) (a_token_is is_name m ts (ap is_name is)) ∙ membered_ends x dot m ts h

  invoked : (x : Tree) (dot m left : Token) (es : Args) (ts us : List Token) → Is k.LeftParen left → r.args e n left ts ≡ Ok (es, us)
      → look (r.membered_by e n x dot m) (pure (member x dot m)) (left ∷ ts) ≡ Ok (method_call x dot m es, us)
  invoked x dot m left es ts us is h = look_is (r.membered_by e n x dot m) (pure (member x dot m)) k.LeftParen left ts is ∙ ap (λ v. and_then v (λ es. pure (method_call x dot m es))) h

  pub method_done : (x : Tree) (dot m left : Token) (es : Args) (ts us : List Token) → Is k.Name m → Is k.LeftParen left → r.args e n left ts ≡ Ok (es, us)
      → r.membered e n x dot (m ∷ left ∷ ts) ≡ Ok (method_call x dot m es, us)
  unfolding r.membered
  method_done x dot m left es ts us M L h = ap (λ v. and_then v (λ m. look (r.membered_by e n x dot m) (pure (member x dot m)))) (a_token_is is_name m (left ∷ ts) (ap is_name M)) ∙ invoked x dot m left es ts us L h

  -- ---- unary

  pub unary_passes : (t : Token) (ts : List Token) → prefix_kind t.kind ≡ false → r.unary e n (t ∷ ts) ≡ r.post e n (t ∷ ts)
  unfolding r.unary
  unary_passes t ts h = ap (λ b. chosen (given b (λ op. e 11 >>= (λ x. pure (prefix op x)))) t ts (r.post e n (t ∷ ts))) h

  pub prefix_done : (op : Token) (x : Tree) (ts us : List Token) → IsA prefix_kind op → e 11 ts ≡ Ok (x, us) → r.unary e n (op ∷ ts) ≡ Ok (prefix op x, us)
  unfolding r.unary
  prefix_done op x ts us is h = ap (λ b. chosen (given b (λ op. e 11 >>= (λ x. pure (prefix op x)))) op ts (r.post e n (op ∷ ts))) is ∙ ap (λ v. and_then v (λ x. pure (prefix op x))) h

  -- ---- binary

  pub operation_stops : (least : ℕ) (x : Tree) (ts : List Token) → grip ts ≤ suc (least - 1) → r.operation e n least x ts ≡ Ok ((x, false), ts)
  unfolding r.operation
  operation_stops least x [] h = refl
  operation_stops least x (t ∷ u) h = ap (λ b. chosen (given b (r.operated e n x)) t u (Ok ((x, false), t ∷ u))) (not_bound least t.kind h)

  operated_done : (x y : Tree) (op : Token) (ts us : List Token) → e (precedence op.kind + 1) ts ≡ Ok (y, us) → r.operated e n x op ts ≡ Ok ((binary x op y, true), us)
  unfolding r.operated
  operated_done x y op ts us h = ap (λ v. and_then v (λ y. pure (binary x op y, true))) h

  pub operation_goes_on : (least : ℕ) (x y : Tree) (op : Token) (ts us : List Token) → 1 ≤ precedence op.kind → least ≤ precedence op.kind → e (precedence op.kind + 1) ts ≡ Ok (y, us)
      → r.operation e n least x (op ∷ ts) ≡ Ok ((binary x op y, true), us)
  unfolding r.operation
  operation_goes_on least x y op ts us h k q = ap (λ b. chosen (given b (r.operated e n x)) op ts (Ok ((x, false), op ∷ ts))) (bound least (precedence op.kind) h k) ∙ operated_done x y op ts us q

  -- ---- cond and assign

  tail_stops_by : (x : Tree) (kind : TokenKind) → grip_of kind ≤ 0 → r.tail_by e n x kind ≡ None
  tail_stops_by x k.Question h = absurd (omega arith)
  tail_stops_by x k.LeftParen h = refl
  tail_stops_by x k.Scope h = refl
  tail_stops_by x k.Increment h = refl
  tail_stops_by x k.Decrement h = refl
  tail_stops_by x k.Dot h = refl
  tail_stops_by x kind h = ap (λ is. given is (r.assigned e n x)) (no_assignment (assignment_kind kind) (precedence kind) h)

  pub tail_stops : (x : Tree) (ts : List Token) → grip ts ≤ 0 → r.tail e n x ts ≡ Ok (x, ts)
  unfolding r.tail
  tail_stops x [] h = refl
  tail_stops x (t ∷ u) h = look_at (r.tail_by e n x) (pure x) None t u (tail_stops_by x t.kind h)

  branches_done : (a b : Tree) (colon : Token) (ts us vs : List Token) → Is k.Colon colon → e 0 ts ≡ Ok (a, colon ∷ us) → e 0 us ≡ Ok (b, vs) → r.branches e n ts ≡ Ok ((a, colon, b), vs)
  unfolding r.branches
  branches_done a b colon ts us vs is h k = rw (h, a_token_is is_colon colon us (ap is_colon is), k) refl

  conditioned_done : (c a b : Tree) (question colon : Token) (ts us : List Token) → r.branches e n ts ≡ Ok ((a, colon, b), us) → r.conditioned e n c question ts ≡ Ok (conditional c question a colon b, us)
  unfolding r.conditioned
  conditioned_done c a b question colon ts us h = ap (λ v. and_then v (λ b. pure (conditional c question b.0 b.1 b.2))) h

  question_at : (c : Tree) (question : Token) (ts : List Token) → Is k.Question question → r.tail e n c (question ∷ ts) ≡ r.conditioned e n c question ts
  unfolding r.tail
  question_at c question ts is = look_is (r.tail_by e n c) (pure c) k.Question question ts is

  pub conditional_done : (c a b : Tree) (question colon : Token) (ts us vs : List Token) → Is k.Question question → Is k.Colon colon → e 0 ts ≡ Ok (a, colon ∷ us) → e 0 us ≡ Ok (b, vs)
      → r.tail e n c (question ∷ ts) ≡ Ok (conditional c question a colon b, vs)
  conditional_done c a b question colon ts us vs Q C h k = question_at c question ts Q ∙ conditioned_done c a b question colon ts vs (branches_done a b colon ts us vs C h k)

  assigned_done : (c b : Tree) (op : Token) (ts us : List Token) → e 0 ts ≡ Ok (b, us) → r.assigned e n c op ts ≡ Ok (assignment c op b, us)
  unfolding r.assigned
  assigned_done c b op ts us h = ap (λ v. and_then v (λ b. pure (assignment c op b))) h

  assignment_by : (c : Tree) (kind : TokenKind) → assignment_kind kind ≡ true → r.tail_by e n c kind ≡ Some (r.assigned e n c)
  assignment_by c k.Question h = absurd cc
  assignment_by c kind h = ap (λ is. given is (r.assigned e n c)) h

  assignment_at : (c : Tree) (op : Token) (ts : List Token) → IsA assignment_kind op → r.tail e n c (op ∷ ts) ≡ r.assigned e n c op ts
  unfolding r.tail
  assignment_at c op ts is = look_at (r.tail_by e n c) (pure c) (Some (r.assigned e n c)) op ts (assignment_by c op.kind is)

  pub assignment_done : (c b : Tree) (op : Token) (ts us : List Token) → IsA assignment_kind op → e 0 ts ≡ Ok (b, us) → r.tail e n c (op ∷ ts) ≡ Ok (assignment c op b, us)
  assignment_done c b op ts us is h = assignment_at c op ts is ∙ assigned_done c b op ts us h
