-- What the tokens are, by the grammar.
use Rattle.std.specs.Prelude.{MatchOption}
use Rattle.std.proofs.Common.{◌≡◌, ◌≢◌, ℕ, List, Option, Some, None, Result, Ok, Err, refl, ap, sym, subst, ◌∙◌}
use Rattle.ang_kinds.specs.declared.place.Place.{Place}
use Rattle.ang_lex.specs.declared.token.Token.{Token}
use Rattle.ang_tree.specs.Depth.{too_deep}
use Rattle.ang_tree.specs.Declarations.{Decl, SpellsScript}
use Rattle.ang_parse_read.specs.Read.{Outcome, at, deep}
use Rattle.ang_parse_read.specs.Law.{all_of}
use Rattle.ang_parse_read.proofs.Whole.{all_complete, all_found, all_refused, never_deep}
use Rattle.ang_parse.specs.declared.error.ParseError.{ParseError}
use Rattle.ang_parse.specs.declared.error.ParseError.TheVariants as e
use Rattle.ang_parse.specs.Faults.{place_at, name_at}
use Rattle.ang_parse.specs.Answers.{judged, script_of, IsSyntaxError, IfSyntax}
use Rattle.ang_parse.specs.ReadScript as r
use Rattle.ang_parse.proofs.SoundScript.{AreDecls}
use Rattle.ang_parse.proofs.Exactly.{IsShallow, scripts_exact}

-- how a script is answered
record IsRead (o : Option (List Token)) (read : Outcome (List Decl)) (ds : List Decl) : Type 0 where
  shallow : o ≡ None
  rest : List Token
  is : read ≡ Ok (ds, rest)

-- how a syntax error is answered
record IsRefused (text : List ℕ) (tokens : List Token) (o : Option (List Token)) (read : Outcome (List Decl)) (place : Place) (name : List ℕ) : Type 0 where
  rest : List Token
  is : read ≡ Err (at rest)
  place_is : place ≡ place_at tokens rest
  name_is : name ≡ name_at text rest

module _ (text : List ℕ) (tokens : List Token) where
  abbrev Answer : Type 0
  Answer = Result (List Decl) ParseError

  ok_is : (ds es : List Decl) → ◌≡◌ {A = Answer} (Ok ds) (Ok es) → ds ≡ es
  ok_is ds es h = cc

  place_of : (p q : Place) (m n : List ℕ) → ◌≡◌ {A = Answer} (Err (e.Syntax p m)) (Err (e.Syntax q n)) → p ≡ q
  place_of p q m n h = cc

  name_of : (p q : Place) (m n : List ℕ) → ◌≡◌ {A = Answer} (Err (e.Syntax p m)) (Err (e.Syntax q n)) → m ≡ n
  name_of p q m n h = cc

  read_of : (o : Option (List Token)) (read : Outcome (List Decl)) (ds : List Decl) → judged text tokens o read ≡ Ok ds → IsRead o read ds
  read_of (Some rest) read ds h = absurd cc
  read_of None (Ok p) ds h = record { shallow = refl; rest = p.1; is = ap (λ d. Ok (d, p.1)) (ok_is p.0 ds h) }
  read_of None (Err (at rest)) ds h = absurd cc
  read_of None (Err deep) ds h = absurd cc

  refused_of : (o : Option (List Token)) (read : Outcome (List Decl)) (place : Place) (name : List ℕ) → judged text tokens o read ≡ Err (e.Syntax place name) → IsRefused text tokens o read place name
  refused_of (Some rest) read place name h = absurd cc
  refused_of None (Ok p) place name h = absurd cc
  refused_of None (Err (at rest)) place name h = record {
    rest = rest;
    is = refl;
    place_is = sym (place_of (place_at tokens rest) place (name_at text rest) name h);
    name_is = sym (name_of (place_at tokens rest) place (name_at text rest) name h);
  }
  refused_of None (Err deep) place name h = absurd cc

  no_want : (o : Option (List Token)) (read : Outcome (List Decl)) → judged text tokens o read ≡ Err e.Memory → read ≡ Err deep
  no_want (Some rest) read h = absurd cc
  no_want None (Ok p) h = absurd cc
  no_want None (Err (at rest)) h = absurd cc
  no_want None (Err deep) h = refl

  not_deep : (read : Outcome (List Decl)) (place : Place) → judged text tokens None read ≡ Err (e.TooDeep place) → ⊥
  not_deep (Ok p) place h = cc
  not_deep (Err (at rest)) place h = cc
  not_deep (Err deep) place h = cc

  pub script_found : (ds : List Decl) → script_of text tokens ≡ Ok ds → SpellsScript ds tokens
  unfolding script_of
  script_found ds h =
      let c = read_of (too_deep tokens) (all_of r.script tokens) ds h in
      all_found (List Decl) r.script IsShallow AreDecls SpellsScript scripts_exact tokens c.shallow (ds, c.rest) c.is

  pub script_only : (ds : List Decl) → SpellsScript ds tokens → script_of text tokens ≡ Ok ds
  unfolding script_of
  script_only ds h =
      ap (λ o. judged text tokens o (all_of r.script tokens)) h.shallow
      ∙ ap (λ read. judged text tokens None read) (all_complete (List Decl) r.script IsShallow AreDecls SpellsScript scripts_exact ds tokens h)

  pub deep_answered : (rest : List Token) → too_deep tokens ≡ Some rest → script_of text tokens ≡ Err (e.TooDeep (place_at tokens rest))
  unfolding script_of
  deep_answered rest h = ap (λ o. judged text tokens o (all_of r.script tokens)) h

  pub deep_only : (place : Place) → too_deep tokens ≡ None → script_of text tokens ≡ Err (e.TooDeep place) → ⊥
  unfolding script_of
  deep_only place h g = not_deep (all_of r.script tokens) place (ap (λ o. judged text tokens o (all_of r.script tokens)) (sym h) ∙ g)

  pub syntax_answered : (place : Place) (name : List ℕ) → script_of text tokens ≡ Err (e.Syntax place name) → IsSyntaxError text tokens place name
  unfolding script_of
  syntax_answered place name h =
      let c = refused_of (too_deep tokens) (all_of r.script tokens) place name h in
      record {
        rest = c.rest;
        refused = all_refused (List Decl) r.script IsShallow AreDecls SpellsScript scripts_exact tokens c.rest c.is;
        place_is = c.place_is;
        name_is = c.name_is;
      }

  pub never_want : script_of text tokens ≡ Err e.Memory → ⊥
  unfolding script_of
  never_want h = never_deep (List Decl) r.script IsShallow AreDecls SpellsScript scripts_exact tokens (no_want (too_deep tokens) (all_of r.script tokens) h)

  -- ---- in the form of a contract

  -- the answer, unless memory runs out
  abbrev Answers : ParseError → Type 0
  Answers f = f ≢ e.Memory → script_of text tokens ≡ Err f

  deep_is_no_want : (place : Place) → e.TooDeep place ≢ e.Memory
  deep_is_no_want place h = cc

  syntax_is_no_want : (place : Place) (name : List ℕ) → e.Syntax place name ≢ e.Memory
  syntax_is_no_want place name h = cc

  no_both : (ds : List Decl) (f : ParseError) → script_of text tokens ≡ Ok ds → script_of text tokens ≡ Err f → ⊥
  no_both ds f h g = cc

  pub only_want : (f : ParseError) → Answers f → (ds : List Decl) → SpellsScript ds tokens → f ≡ e.Memory
  only_want e.Memory h ds s = refl
  only_want (e.TooDeep place) h ds s = absurd (no_both ds (e.TooDeep place) (script_only ds s) (h (deep_is_no_want place)))
  only_want (e.Syntax place name) h ds s = absurd (no_both ds (e.Syntax place name) (script_only ds s) (h (syntax_is_no_want place name)))

  pub same_script : (xs ds : List Decl) → script_of text tokens ≡ Ok xs → SpellsScript ds tokens → xs ≡ ds
  same_script xs ds h s = ok_is xs ds (sym h ∙ script_only ds s)

  pub syntax_clause : (f : ParseError) → Answers f → IfSyntax f (IsSyntaxError text tokens)
  syntax_clause e.Memory h = tt
  syntax_clause (e.TooDeep place) h = tt
  syntax_clause (e.Syntax place name) h = syntax_answered place name (h (syntax_is_no_want place name))

  deep_no_answer : (f : ParseError) (place : Place) → Answers f → too_deep tokens ≡ None → f ≡ e.TooDeep place → ⊥
  deep_no_answer f place h is same =
      deep_only place is (subst (λ v. script_of text tokens ≡ Err v) same (h (λ m. deep_is_no_want place (sym same ∙ m))))

  pub deep_clause : (X : Type 0) (f : ParseError) → Answers f → ((rest : List Token) → too_deep tokens ≡ Some rest → ◌≡◌ {A = Result X ParseError} (Err f) (Err (e.TooDeep (place_at tokens rest))))
      → (Y : Type 0) (o : Option (List Token)) → too_deep tokens ≡ o
      → MatchOption o ((place : Place) → ◌≢◌ {A = Result Y ParseError} (Err f) (Err (e.TooDeep place))) (λ rest. ◌≡◌ {A = Result Y ParseError} (Err f) (Err (e.TooDeep (place_at tokens rest))))
  deep_clause X f h g Y None is = λ place same. deep_no_answer f place h is (let err : f ≡ e.TooDeep place = cc in err)
  deep_clause X f h g Y (Some rest) is =
      let same = g rest is in
      let err : f ≡ e.TooDeep (place_at tokens rest) = cc in
      ap (λ v. Err v) err

pub not_too_small : (tokens : List Token) → all_of r.script tokens ≡ Err deep → ⊥
not_too_small tokens h = never_deep (List Decl) r.script IsShallow AreDecls SpellsScript scripts_exact tokens h
