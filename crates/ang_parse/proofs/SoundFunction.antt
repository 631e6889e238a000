-- What is read as a function, as global variables or as an import is spelled so.
use Rattle.std.proofs.Common.{◌≡◌, ℕ, zero, suc, ◌<◌, ◌≤◌, Bool, true, false, List, [], ◌∷◌, ◌++◌, length, Option, Some, None, Ok, Err, refl, ap, sym, ◌∙◌, append_assoc, arith}
use Rattle.std.specs.Prelude.{IfSome, option_map, nat_lt, if◌then◌else◌}
use Rattle.std.proofs.lemmas.List.{length-append}
use Rattle.ang_lex.specs.declared.token.Token.{Token}
use Rattle.ang_lex.specs.declared.token.TokenKind.TheVariants as k
use Rattle.ang_tree.specs.declared.type_name.TypeName.{TypeName}
use Rattle.ang_tree.specs.Kinds.{Is}
use Rattle.ang_tree.specs.TypeNames.{spelled_type, FitsType}
use Rattle.ang_tree.specs.Tree.{Args}
use Rattle.ang_tree.specs.Stmt.{constructor, Vars, Body, spelled_body}
use Rattle.ang_tree.specs.Declarations.{Params, spelled_params, Decl, spelled_decl, FitsDecl}
use Rattle.ang_tree.specs.Declarations as decl
use Rattle.ang_parse_read.specs.From.{From}
use Rattle.ang_parse_read.specs.Read.{at, deep, Outcome, pure, repeat}
use Rattle.ang_parse_read.specs.Tokens.{a_token, is_name, is_semicolon, is_from, is_text}
use Rattle.ang_parse_read.specs.Law.{finish}
use Rattle.ang_parse_read.specs.Group.{split, merged, both}
use Rattle.ang_parse_read.proofs.Outcomes.{Reads, and_reads, along, further, behind, ChoiceReads, look_reads, From-self, From-one}
use Rattle.ang_parse_read.proofs.Tokens.{Token_read, a_token_reads, name_is, semicolon_is, from_is, text_is}
use Rattle.ang_parse_read.proofs.PrefixGroup.{parts}
use Rattle.ang_parse_expr.specs.ReadType.{a_type}
use Rattle.ang_parse_expr.specs.ReadExpr.{expr, args}
use Rattle.ang_parse_expr.proofs.SoundType.{Type_read, a_type_reads, type-length}
use Rattle.ang_parse_expr.proofs.Sound.{IsArgs, args_at_reads}
use Rattle.ang_parse_stmt.specs.ReadVars.{variable_of, variables_behind, variables_named}
use Rattle.ang_parse_stmt.specs.ReadStmt.{stmt, statements, a_body}
use Rattle.ang_parse_stmt.proofs.VariableLengths.{vars-length}
use Rattle.ang_parse_stmt.proofs.Lengths.{body-length}
use Rattle.ang_parse_stmt.proofs.SoundVars.{IsVars, variables_behind_reads, variables_named_reads}
use Rattle.ang_parse_stmt.proofs.SoundStmt.{IsBody, IsStmt, stmt_reads, body_reads, body_at_reads}
use Rattle.ang_parse_stmt.specs.ReadParams.{params, a_params}
use Rattle.ang_parse_stmt.proofs.SoundParams.{IsParams, params_reads, a_params_reads, params-length}
use Rattle.ang_parse.specs.ReadFunction as r
use Rattle.ang_parse.proofs.Groups.{params_joined, args_joined}

-- ---- the group

-- all of the tokens
pub record IsWhole {A : Type 0} (R : A → List Token → Type 0) (x : A) (s : List Token) : Type 0 where
  pub is : R x []
  pub nothing : s ≡ []

finish_reads : {A : Type 0} (n : ℕ) (ts : List Token) (R : A → List Token → Type 0) (x : A) (s : List Token) → R x s → From ts s → Reads n ts (IsWhole R) (finish x s)
finish_reads n ts R x [] q f = (record { is = q; nothing = refl }, f)
finish_reads n ts R x (t ∷ u) q f = f

pub whole_params_reads : (n l : ℕ) → n ≤ l → (left : Token) → Is k.LeftParen left → (ts : List Token) → Reads n ts (IsWhole (IsParams (left ∷ ts))) (r.whole_params l left ts)
unfolding r.whole_params
whole_params_reads n l le left L ts =
    and_reads n ts (IsParams (left ∷ ts)) (IsWhole (IsParams (left ∷ ts))) (params l left ts) finish (params_reads n l le left L ts)
    (λ ps s q f. finish_reads n ts (IsParams (left ∷ ts)) ps s q f)

pub whole_args_reads : (n l : ℕ) → n ≤ l → (left : Token) → Is k.LeftParen left → (ts : List Token) → Reads n ts (IsWhole (IsArgs left ts)) (r.whole_args l left ts)
unfolding r.whole_args
whole_args_reads n l le left L ts =
    and_reads n ts (IsArgs left ts) (IsWhole (IsArgs left ts)) (args (expr l) l left ts) finish
    (along l n ts ts (IsArgs left ts) _ _ (From-self ts) (λ d. omega arith) (λ x s q. q) (args_at_reads l left L ts))
    (λ es s q f. finish_reads n ts (IsArgs left ts) es s q f)

-- a group, as parameters or as arguments or as both
pub record IsGroup (left : Token) (w : List Token) (g : r.Group) (s : List Token) : Type 0 where
  pub as_params : IfSome g.0 (λ ps. IsParams (left ∷ w) ps s)
  pub as_args : IfSome g.1 (λ es. IsArgs left w es s)

-- The group is a front of the tokens.
module _ (left : Token) (a s ts : List Token) (e : ts ≡ a ++ s) where
  params_longer : (ps : Params) → IsParams (left ∷ a) ps [] → IsParams (left ∷ ts) ps s
  params_longer ps q = record { text = ap (λ v. left ∷ v) e ∙ ap (λ v. v ++ s) q.text ∙ ap (λ v. ps.left ∷ v) (sym (params_joined ps s q.fits)); fits = q.fits }

  args_longer : (es : Args) → IsArgs left a es [] → IsArgs left ts es s
  args_longer es q = record { text = ap (λ v. left ∷ v) e ∙ ap (λ v. v ++ s) q.text ∙ sym (args_joined es s q.fits); fits = q.fits }

  from_longer : (u : List Token) → From a u → From ts (u ++ s)
  from_longer u f = record { front = f.front; parts = e ∙ ap (λ v. v ++ s) f.parts ∙ append_assoc f.front u s }

  either_from : (u v : List Token) (b : Bool) → From a u → From a v → From a (if b then u else v)
  either_from u v true f g = f
  either_from u v false f g = g

  merged_reads : (n : ℕ) (o : Outcome Params) (p : Outcome Args) → Reads n a (IsWhole (IsParams (left ∷ a))) o → Reads n a (IsWhole (IsArgs left a)) p → Reads n ts (IsGroup left ts) (merged o p s)
  merged_reads n (Ok x) (Ok y) h g = (record { as_params = params_longer x.0 h.0.is; as_args = args_longer y.0 g.0.is }, record { front = a; parts = e })
  merged_reads n (Ok x) (Err (at u)) h g = (record { as_params = params_longer x.0 h.0.is; as_args = tt }, record { front = a; parts = e })
  merged_reads n (Ok x) (Err deep) h g = omega (arith, ap length e, length-append a s)
  merged_reads n (Err (at v)) (Ok y) h g = (record { as_params = tt; as_args = args_longer y.0 g.0.is }, record { front = a; parts = e })
  merged_reads n (Err (at v)) (Err (at u)) h g = from_longer (if nat_lt (length u) (length v) then u else v) (either_from u v (nat_lt (length u) (length v)) g h)
  merged_reads n (Err (at v)) (Err deep) h g = omega (arith, ap length e, length-append a s)
  merged_reads n (Err deep) p h g = omega (arith, ap length e, length-append a s)

pub group_reads : (n l : ℕ) → n ≤ l → (left : Token) → Is k.LeftParen left → (ts : List Token) → Reads n ts (IsGroup left ts) (r.group l left ts)
unfolding r.group both
group_reads n l le left L ts =
    let g = split ts 0 in
    merged_reads left g.0 g.1 ts (parts ts 0) n (r.whole_params l left g.0) (r.whole_args l left g.0) (whole_params_reads n l le left L g.0) (whole_args_reads n l le left L g.0)

-- ---- declarations

pub record IsDecl (w : List Token) (d : Decl) (s : List Token) : Type 0 where
  pub text : w ≡ spelled_decl d s
  pub fits : FitsDecl d
  pub shorter : length s < length w

function-length : (y : TypeName) (x : Token) (ps : Params) (b : Body) (s : List Token) → length s < length (spelled_decl (decl.function y x ps b) s)
function-length y x ps b s = omega (arith, type-length y (x ∷ spelled_params ps (spelled_body b s)), params-length ps (spelled_body b s), body-length b s)

import-length : (word : Token) (y : TypeName) (x : Token) (ps : Params) (origin text semicolon : Token) (s : List Token) → length s < length (spelled_decl (decl.import word y x ps origin text semicolon) s)
import-length word y x ps origin text semicolon s = omega (arith, type-length y (x ∷ spelled_params ps (origin ∷ text ∷ semicolon ∷ s)), params-length ps (origin ∷ text ∷ semicolon ∷ s))

globals_are : (w : List Token) (vs : Vars) (s : List Token) → IsVars w vs s → IsDecl w (decl.globals vs) s
globals_are w vs s q = record { text = q.text; fits = q.fits; shorter = omega (arith, ap length q.text, vars-length vs s) }

-- a block, from its left brace on
block_reads : (n l : ℕ) → n ≤ l → (left : Token) → Is k.LeftBrace left → (ts : List Token) → Reads n (left ∷ ts) (IsBody left ts) (a_body (stmt n l) l left ts)
unfolding a_body statements repeat
block_reads zero zero le left is ts = omega arith
block_reads zero (suc l) le left is ts = further 0 (left ∷ ts) ts (IsBody left ts) _ _ (From-one left ts) (λ x s q. q) (body_at_reads 0 (suc l) (omega arith) left is ts)
block_reads (suc n) l le left is ts =
    behind n left ts (IsBody left ts) (IsBody left ts) (a_body (stmt (suc n) l) l left ts) (λ x s q. q)
    (body_reads n l (omega arith) (stmt (suc n) l) (λ us. along (suc n) n us us (IsStmt us) _ _ (From-self us) (λ d. omega arith) (λ x s q. q) (stmt_reads (suc n) l le us)) left is ts)

module _ (n l : ℕ) (le : n ≤ l) (y : TypeName) (Y : FitsType y) (x : Token) (X : Is k.Name x) (w : List Token) where
  module _ (left : Token) (inside : List Token) (e : w ≡ spelled_type y (x ∷ left ∷ inside)) where
    bodied_reads : (ps : Params) (brace : Token) → Is k.LeftBrace brace → (ts : List Token) → IsParams (left ∷ inside) ps (brace ∷ ts) → Reads n (brace ∷ ts) (IsDecl w) (r.bodied n l y x ps brace ts)
    unfolding r.bodied
    bodied_reads ps brace B ts h =
        and_reads n (brace ∷ ts) (IsBody brace ts) (IsDecl w) (a_body (stmt n l) l brace ts) (λ b. pure (decl.function y x ps b)) (block_reads n l le brace B ts)
        (λ b s q f.
        let text : w ≡ spelled_decl (decl.function y x ps b) s = e ∙ ap (λ v. spelled_type y (x ∷ v)) (h.text ∙ ap (spelled_params ps) q.text) in
        (record { text = text; fits = (Y, X, h.fits, q.fits); shorter = omega (arith, ap length text, function-length y x ps b s) }, f))

    constructed_reads : (es : Args) (ts : List Token) → IsArgs left inside es ts → Reads n ts (IsDecl w) (r.constructed l y x es ts)
    unfolding r.constructed
    constructed_reads es ts h =
        and_reads n ts (IsVars w) (IsDecl w) (variables_behind l y (variable_of None x (constructor es)) ts) (λ vs. pure (decl.globals vs))
        (variables_behind_reads n l le y (variable_of None x (constructor es)) w (x ∷ left ∷ inside) ts Y e (record { text = ap (λ v. x ∷ v) h.text; fits = (X, h.fits); front = refl }))
        (λ vs s q f. (globals_are w vs s q, f))

    braced_reads : (o : Option Params) (t : Token) → Is k.LeftBrace t → (u : List Token) → IfSome o (λ ps. IsParams (left ∷ inside) ps (t ∷ u)) → IfSome (option_map (r.bodied n l y x) o) (λ q. Reads n (t ∷ u) (IsDecl w) (q t u))
    braced_reads None t is u h = tt
    braced_reads (Some ps) t is u h = bodied_reads ps t is u h

    told_by_reads : (o : Option Params) → ChoiceReads n (λ ts. IfSome o (λ ps. IsParams (left ∷ inside) ps ts)) (λ ts. IsDecl w) (r.told_by n l y x o)
    told_by_reads o k.LeftBrace t u is h = braced_reads o t is u h
    told_by_reads o _ t u is h = tt

    perhaps_constructed_reads : (o : Option Args) (ts : List Token) → IfSome o (λ es. IsArgs left inside es ts) → Reads n ts (IsDecl w) (r.perhaps_constructed l y x o ts)
    perhaps_constructed_reads None ts h = From-self ts
    perhaps_constructed_reads (Some es) ts h = constructed_reads es ts h

    told_reads : (g : r.Group) (ts : List Token) → IsGroup left inside g ts → Reads n ts (IsDecl w) (r.told n l y x g ts)
    unfolding r.told
    told_reads g ts h =
        look_reads n (λ ts. IsGroup left inside g ts) (λ ts. IsDecl w) (r.told_by n l y x g.0) (r.perhaps_constructed l y x g.1)
        (λ kind t u is h. told_by_reads g.0 kind t u is h.as_params) (λ ts h. perhaps_constructed_reads g.1 ts h.as_args) ts h

    grouped_reads : Is k.LeftParen left → Reads n inside (IsDecl w) (r.grouped n l y x left inside)
    unfolding r.grouped
    grouped_reads L =
        and_reads n inside (IsGroup left inside) (IsDecl w) (r.group l left inside) (r.told n l y x) (group_reads n l le left L inside)
        (λ g s q f. further n inside s (IsDecl w) _ _ f (λ d u z. z) (told_reads g s q))

  declared_reads : (ts : List Token) → w ≡ spelled_type y (x ∷ ts) → Reads n ts (IsDecl w) (r.declared l y x ts)
  unfolding r.declared
  declared_reads ts e =
      and_reads n ts (IsVars w) (IsDecl w) (variables_named l y x ts) (λ vs. pure (decl.globals vs)) (variables_named_reads n l le y x w ts Y X e)
      (λ vs s q f. (globals_are w vs s q, f))

  named_by_reads : ChoiceReads n (λ ts. w ≡ spelled_type y (x ∷ ts)) (λ ts. IsDecl w) (r.named_by n l y x)
  named_by_reads k.LeftParen t u is e = further n (t ∷ u) u (IsDecl w) _ _ (From-one t u) (λ d s q. q) (grouped_reads t u e is)
  named_by_reads _ t u is e = tt

  named_reads : (ts : List Token) → w ≡ spelled_type y (x ∷ ts) → Reads n ts (IsDecl w) (r.named n l y x ts)
  unfolding r.named
  named_reads ts e = look_reads n (λ ts. w ≡ spelled_type y (x ∷ ts)) (λ ts. IsDecl w) (r.named_by n l y x) (r.declared l y x) named_by_reads declared_reads ts e

pub function_or_globals_reads : (n l : ℕ) → n ≤ l → (ts : List Token) → Reads n ts (IsDecl ts) (r.function_or_globals n l ts)
unfolding r.function_or_globals
function_or_globals_reads n l le ts =
    and_reads n ts (Type_read ts) (IsDecl ts) (a_type ts) _ (a_type_reads n ts)
    (λ y s q f. further n ts s (IsDecl ts) _ _ f (λ d u z. z)
    (and_reads n s (Token_read is_name s) (IsDecl ts) (a_token is_name s) (r.named n l y) (a_token_reads is_name n s)
    (λ x u p g. further n s u (IsDecl ts) _ _ g (λ d v z. z) (named_reads n l le y q.fits x (name_is x.kind p.kind) ts u (q.text ∙ ap (spelled_type y) p.text)))))

-- ---- import

-- "from" TEXT ";"
pub record IsOrigin (w : List Token) (o : Token × Token × Token) (s : List Token) : Type 0 where
  pub text : w ≡ o.0 ∷ o.1 ∷ o.2 ∷ s
  pub word : Is k.From o.0
  pub name : Is k.Text o.1
  pub semicolon : Is k.Semicolon o.2

origin_reads : (n : ℕ) (ts : List Token) → Reads n ts (IsOrigin ts) (r.origin ts)
unfolding r.origin
origin_reads n ts =
    and_reads n ts (Token_read is_from ts) (IsOrigin ts) (a_token is_from ts) _ (a_token_reads is_from n ts)
    (λ word s p f. further n ts s (IsOrigin ts) _ _ f (λ y u z. z)
    (and_reads n s (Token_read is_text s) (IsOrigin ts) (a_token is_text s) _ (a_token_reads is_text n s)
    (λ text u q g. further n s u (IsOrigin ts) _ _ g (λ y u z. z)
    (and_reads n u (Token_read is_semicolon u) (IsOrigin ts) (a_token is_semicolon u) (λ semicolon. pure (word, text, semicolon)) (a_token_reads is_semicolon n u)
    (λ semicolon v o h. (
      record {
        text = p.text ∙ ap (λ v. word ∷ v) (q.text ∙ ap (λ v. text ∷ v) o.text);
        word = from_is word.kind p.kind;
        name = text_is text.kind q.kind;
        semicolon = semicolon_is semicolon.kind o.kind;
      },
      h,
    ))))))

pub import_reads : (n l : ℕ) → n ≤ l → (word : Token) → Is k.Import word → (ts : List Token) → Reads n ts (IsDecl (word ∷ ts)) (r.import l word ts)
unfolding r.import
import_reads n l le word W ts =
    and_reads n ts (Type_read ts) (IsDecl (word ∷ ts)) (a_type ts) _ (a_type_reads n ts)
    (λ y s q f. further n ts s (IsDecl (word ∷ ts)) _ _ f (λ d u z. z)
    (and_reads n s (Token_read is_name s) (IsDecl (word ∷ ts)) (a_token is_name s) _ (a_token_reads is_name n s)
    (λ x u p g. further n s u (IsDecl (word ∷ ts)) _ _ g (λ d u z. z)
    (and_reads n u (IsParams u) (IsDecl (word ∷ ts)) (a_params l u) _ (a_params_reads n l le u)
    (λ ps v a h. further n u v (IsDecl (word ∷ ts)) _ _ h (λ d u z. z)
    (and_reads n v (IsOrigin v) (IsDecl (word ∷ ts)) (r.origin v) (λ o. pure (decl.import word y x ps o.0 o.1 o.2)) (origin_reads n v)
    (λ o z i j.
    let text : word ∷ ts ≡ spelled_decl (decl.import word y x ps o.0 o.1 o.2) z = ap (λ v. word ∷ v) (q.text ∙ ap (spelled_type y) (p.text ∙ ap (λ v. x ∷ v) (a.text ∙ ap (spelled_params ps) i.text))) in (
      record {
        text = text;
        fits = (W, q.fits, name_is x.kind p.kind, a.fits, i.word, i.name, i.semicolon);
        shorter = omega (arith, ap length text, import-length word y x ps o.0 o.1 o.2 z);
      },
      j,
    ))))))))
