-- What is read as a script is spelled so.
use Rattle.std.proofs.Common.{◌≡◌, ℕ, ◌+◌, ◌<◌, ◌≤◌, Bool, true, false, List, [], ◌∷◌, ◌++◌, length, None, refl, ap, sym, ◌∙◌, arith}
use Rattle.ang_lex.specs.declared.token.Token.{Token}
use Rattle.ang_lex.specs.declared.token.TokenKind.TheVariants as k
use Rattle.ang_tree.specs.Stmt.{each, Every, spelled_body}
use Rattle.ang_tree.specs.Declarations as tree
use Rattle.ang_tree.specs.Declarations.{Decl, spelled_decl, FitsDecl, spelled_params}
use Rattle.ang_parse_read.specs.Read.{pure}
use Rattle.ang_parse_read.proofs.Outcomes.{Reads, and_reads, further, ChoiceReads, look_reads, Turns, repeat_reads_to, From-self, From-one}
use Rattle.ang_parse_read.proofs.Tokens.{Always}
use Rattle.ang_parse_stmt.proofs.Ahead.{ahead_reads}
use Rattle.ang_parse_expr.proofs.SoundType.{type-length}
use Rattle.ang_parse_stmt.proofs.VariableLengths.{vars-length}
use Rattle.ang_parse_stmt.proofs.Lengths.{body-length}
use Rattle.ang_parse_stmt.proofs.SoundVars.{each-one_more, Every-one_more}
use Rattle.ang_parse_stmt.proofs.SoundParams.{params-length}
use Rattle.ang_parse.specs.ReadFunction.{function_or_globals}
use Rattle.ang_parse.proofs.SoundFunction as function
use Rattle.ang_parse.proofs.SoundFunction.{function_or_globals_reads, import_reads}
use Rattle.ang_parse.proofs.SoundClass.{IsDecl, class_reads, final_class_reads, interface_reads}
use Rattle.ang_parse.proofs.Lengths.{class-length, interface-length}
use Rattle.ang_parse.specs.ReadScript as r

pub record AreDecls (w : List Token) (ds : List Decl) (s : List Token) : Type 0 where
  pub text : w ≡ each spelled_decl ds s
  pub fits : Every FitsDecl ds

pub decl-length : (x : Decl) (s : List Token) → length s < length (spelled_decl x s)
decl-length (tree.class final word x bases left members right) s = class-length final word x bases left members right s
decl-length (tree.interface word x bases left methods right) s = interface-length word x bases left methods right s
decl-length (tree.import word y x ps from text semicolon) s = omega (arith, type-length y (x ∷ spelled_params ps (from ∷ text ∷ semicolon ∷ s)), params-length ps (from ∷ text ∷ semicolon ∷ s))
decl-length (tree.function y x ps b) s = omega (arith, type-length y (x ∷ spelled_params ps (spelled_body b s)), params-length ps (spelled_body b s), body-length b s)
decl-length (tree.globals vs) s = vars-length vs s
decl-length (tree.empty semicolon) s = omega arith

pub decls-length : (ds : List Decl) (s : List Token) → length ds + length s ≤ length (each spelled_decl ds s)
decls-length [] s = omega arith
decls-length (x ∷ ds) s = omega (arith, decl-length x (each spelled_decl ds s), decls-length ds s)

as_decl : (w : List Token) (x : Decl) (s : List Token) → function.IsDecl w x s → IsDecl w x s
as_decl w x s h = record { text = h.text; fits = h.fits }

module _ (l : ℕ) where
  declaration_by_reads : ChoiceReads l Always IsDecl (r.declaration_by l)
  declaration_by_reads k.Class t u is z = further l (t ∷ u) u (IsDecl (t ∷ u)) _ _ (From-one t u) (λ y s q. q) (class_reads l l (omega arith) None t tt is u)
  declaration_by_reads k.Final t u is z = further l (t ∷ u) u (IsDecl (t ∷ u)) _ _ (From-one t u) (λ y s q. q) (final_class_reads l l (omega arith) t is u)
  declaration_by_reads k.Interface t u is z = further l (t ∷ u) u (IsDecl (t ∷ u)) _ _ (From-one t u) (λ y s q. q) (interface_reads l l (omega arith) t is u)
  declaration_by_reads k.Import t u is z = further l (t ∷ u) u (function.IsDecl (t ∷ u)) _ _ (From-one t u) (as_decl (t ∷ u)) (import_reads l l (omega arith) t is u)
  declaration_by_reads k.Semicolon t u is z = (record { text = refl; fits = is }, From-one t u)
  declaration_by_reads _ t u is z = tt

  declaration_reads : (ts : List Token) → Reads l ts (IsDecl ts) (r.declaration l ts)
  unfolding r.declaration
  declaration_reads ts = look_reads l Always IsDecl (r.declaration_by l) (function_or_globals l l) declaration_by_reads (λ ts z. further l ts ts (function.IsDecl ts) _ _ (From-self ts) (as_decl ts) (function_or_globals_reads l l (omega arith) ts)) ts tt

  abbrev More : List Token → ℕ → List Decl × Bool → List Token → Type 0
  More w len = Turns (AreDecls w) (AreDecls w) len

  next_declaration_reads : (w : List Token) (ds : List Decl) (ts : List Token) → AreDecls w ds ts → Reads l ts (More w (length ts)) (r.next_declaration l ds ts)
  unfolding r.next_declaration
  next_declaration_reads w ds ts h =
      and_reads l ts (IsDecl ts) (More w (length ts)) (r.declaration l ts) (λ x. pure (ds ++ x ∷ [], true)) (declaration_reads ts)
      (λ x s q f. (
        (
          record {
            text = h.text ∙ ap (λ v. each spelled_decl ds v) q.text ∙ sym (each-one_more spelled_decl ds x s);
            fits = Every-one_more FitsDecl ds x h.fits q.fits;
          },
          omega (arith, ap length q.text, decl-length x s),
        ),
        f,
      ))

  other_declaration_reads : (w : List Token) (ds : List Decl) (ts : List Token) → AreDecls w ds ts → Reads l ts (More w (length ts)) (r.other_declaration l ds ts)
  unfolding r.other_declaration
  other_declaration_reads w ds ts h = ahead_reads l (More w (length ts)) r.any_kind (r.next_declaration l ds) (pure (ds, false)) ts (λ e. next_declaration_reads w ds ts h) (λ e. (h, From-self ts))

  pub script_reads : (ts : List Token) → Reads l ts (AreDecls ts) (r.script l ts)
  unfolding r.script
  script_reads ts = repeat_reads_to (AreDecls ts) (AreDecls ts) l (r.other_declaration l) (other_declaration_reads ts) l l (omega arith) (omega arith) [] ts (record { text = refl; fits = tt })
