-- What is spelled as a script is read.
use Rattle.std.proofs.Common.{◌≡◌, ℕ, zero, suc, ◌<◌, ◌≤◌, true, false, List, [], ◌∷◌, ◌++◌, length, Some, None, Ok, refl, ap, sym, ◌∙◌, append_assoc, arith}
use Rattle.std.proofs.lemmas.List.{append-nil}
use Rattle.ang_lex.specs.declared.token.Token.{Token}
use Rattle.ang_lex.specs.declared.token.TokenKind.{TokenKind}
use Rattle.ang_lex.specs.declared.token.TokenKind.TheVariants as k
use Rattle.ang_tree.specs.Stmt.{each, Every}
use Rattle.ang_tree.specs.Declarations as tree
use Rattle.ang_tree.specs.Declarations.{Decl, spelled_decl, FitsDecl}
use Rattle.ang_parse_read.specs.Read.{Parser, and_then, pure, repeat}
use Rattle.ang_parse_read.proofs.Tokens.{look_is}
use Rattle.ang_parse_read.proofs.Loops.{repeat_stops, repeat_goes_on}
use Rattle.ang_parse_expr.proofs.Grip.{passed}
use Rattle.ang_parse_stmt.specs.Ahead.{ahead}
use Rattle.ang_parse.specs.ReadFunction.{function_or_globals}
use Rattle.ang_parse.proofs.CompleteFunction.{function_complete, globals_complete, import_complete, type_start, type_first}
use Rattle.ang_parse.proofs.CompleteClass.{class_complete, final_class_complete, interface_complete}
use Rattle.ang_parse.specs.ReadScript as r
use Rattle.ang_parse.proofs.SoundScript.{decl-length, decls-length}

no_word : (l : ℕ) (kind : TokenKind) → type_start kind ≡ true → r.declaration_by l kind ≡ None
no_word l k.Class h = absurd cc
no_word l k.Final h = absurd cc
no_word l k.Interface h = absurd cc
no_word l k.Import h = absurd cc
no_word l k.Semicolon h = absurd cc
no_word l _ h = refl

declaration_complete : (x : Decl) (l : ℕ) (ts : List Token) → FitsDecl x → length (spelled_decl x ts) < l → r.declaration l (spelled_decl x ts) ≡ Ok (x, ts)
unfolding r.declaration
declaration_complete (tree.class None word x bases left members right) l ts f le =
    look_is (r.declaration_by l) (function_or_globals l l) k.Class word _ f.1 ∙ class_complete None word x bases left members right l l ts f (omega arith) (omega arith)
declaration_complete (tree.class (Some final) word x bases left members right) l ts f le =
    look_is (r.declaration_by l) (function_or_globals l l) k.Final final _ f.0 ∙ final_class_complete final word x bases left members right l l ts f (omega arith) (omega arith)
declaration_complete (tree.interface word x bases left methods right) l ts f le =
    look_is (r.declaration_by l) (function_or_globals l l) k.Interface word _ f.0 ∙ interface_complete word x bases left methods right l ts f (omega arith)
declaration_complete (tree.import word y x ps from text semicolon) l ts f le =
    look_is (r.declaration_by l) (function_or_globals l l) k.Import word _ f.0 ∙ import_complete word y x ps from text semicolon l ts f le
declaration_complete (tree.function y x ps b) l ts f le =
    passed type_start (r.declaration_by l) (function_or_globals l l) _ (type_first y _ f.0) (no_word l) ∙ function_complete y x ps b l l ts f le le
declaration_complete (tree.globals vs) l ts f le =
    passed type_start (r.declaration_by l) (function_or_globals l l) _ (type_first vs.declared_type _ f.of_type) (no_word l) ∙ globals_complete vs l l ts f le
declaration_complete (tree.empty semicolon) l ts f le = look_is (r.declaration_by l) (function_or_globals l l) k.Semicolon semicolon ts f

ahead_of_some : {A : Type 0} (p q : Parser A) (ts : List Token) → 1 ≤ length ts → ahead r.any_kind p q ts ≡ p ts
ahead_of_some p q [] h = absurd (omega arith)
ahead_of_some p q (t ∷ ts) h = refl

other_read : (us : List Decl) (x : Decl) (l : ℕ) (ts : List Token) → FitsDecl x → length (spelled_decl x ts) < l
    → r.other_declaration l us (spelled_decl x ts) ≡ Ok ((us ++ x ∷ [], true), ts)
unfolding r.other_declaration r.next_declaration
other_read us x l ts f le =
    ahead_of_some (r.next_declaration l us) (pure (us, false)) (spelled_decl x ts) (omega (arith, decl-length x ts))
    ∙ ap (λ v. and_then v (λ d. pure (us ++ d ∷ [], true))) (declaration_complete x l ts f le)

ends : (us : List Decl) (l : ℕ) → r.other_declaration l us [] ≡ Ok ((us, false), [])
unfolding r.other_declaration
ends us l = refl

others_read : (ds us : List Decl) (k l : ℕ) → Every FitsDecl ds → length (each spelled_decl ds []) < l → length ds < k
    → repeat (r.other_declaration l) k us (each spelled_decl ds []) ≡ Ok (us ++ ds, [])
others_read [] us k l f le lt = repeat_stops (r.other_declaration l) us k [] (omega arith) (ends us l) ∙ ap (λ v. Ok (v, [])) (sym (append-nil us))
others_read (x ∷ ds) us zero l f le lt = absurd (omega arith)
others_read (x ∷ ds) us (suc k) l f le lt =
    let rest = each spelled_decl ds [] in
    repeat_goes_on (r.other_declaration l) us (us ++ x ∷ []) k (spelled_decl x rest) rest (other_read us x l rest f.0 le)
    ∙ others_read ds (us ++ x ∷ []) k l f.1 (omega (arith, decl-length x rest)) (omega arith)
    ∙ ap (λ v. Ok (v, [])) (append_assoc us (x ∷ []) ds)

pub script_complete : (ds : List Decl) (l : ℕ) → Every FitsDecl ds → length (each spelled_decl ds []) < l → r.script l (each spelled_decl ds []) ≡ Ok (ds, [])
unfolding r.script
script_complete ds l f le = others_read ds [] l l f le (omega (arith, decls-length ds []))
