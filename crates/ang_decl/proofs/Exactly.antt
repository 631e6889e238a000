-- The readers of declarations are exact against the grammar.
use Rattle.std.proofs.Common.{◌≡◌, ℕ, ◌+◌, Bool, true, false, List, [], ◌∷◌, length, Ok, Err, refl, ap, sym, subst, ◌∙◌, arith}
use Rattle.std.specs.Prelude.{is_none, ◌&&◌}
use Rattle.ang_lex.specs.declared.token.Token.{Token}
use Rattle.ang_parse_read.specs.Law.{finish, all_of}
use Rattle.ang_parse_read.specs.Read.{Outcome, Parser, and_then}
use Rattle.ang_decl.specs.declared.tree.HostType.{HostType}
use Rattle.ang_decl.specs.declared.tree.HostFunction.{HostFunction}
use Rattle.ang_decl.specs.declared.tree.HostProperty.{HostProperty}
use Rattle.ang_decl.specs.Grammar.{spelled_type, spelled_function, spelled_property, FitsType, SpellsType, SpellsProperty, SpellsMethod, SpellsFunction, SpellsFactory, is_plain_handle}
use Rattle.ang_decl.specs.Parsed.{is_function_form, is_factory_form, of_any_form}
use Rattle.ang_decl.specs.Read as r
use Rattle.ang_decl.proofs.Found.{Found}
use Rattle.ang_decl.proofs.Sound.{Reads, FitsFunction, FitsProperty, a_type_found, a_function_found, a_property_found}
use Rattle.ang_decl.proofs.Complete.{whole_type_read, function_read, property_read, function-length}

-- A reader that is exact for a relation: what it reads of all the tokens spells them, and what spells them is read.
pub record Exact {A : Type 0} (reader : ℕ → Parser A) (Spells : A → List Token → Type 0) : Type 0 where
  pub sound : (ts : List Token) (p : A × List Token) → all_of reader ts ≡ Ok p → Spells p.0 ts
  pub complete : (x : A) (ts : List Token) → Spells x ts → all_of reader ts ≡ Ok (x, [])

module _ (A : Type 0) (reader : ℕ → Parser A) where
  abbrev reading : A → List Token → Outcome A
  reading x s = Ok (x, s)

  same_reading : (x y : A) → reading x [] ≡ reading y [] → x ≡ y
  same_reading x y e = let f : (x, []) ≡ (y, []) = cc in ap (λ (p : A × List Token). p.0) f

  pub one_reading : (Spells : A → List Token → Type 0) → Exact reader Spells → (x y : A) (ts : List Token) → Spells x ts → Spells y ts → x ≡ y
  one_reading Spells exact x y ts h k = same_reading x y (sym (exact.complete x ts h) ∙ exact.complete y ts k)

  whole_complete : (x : A) (ts : List Token) → reader (length ts + 1) ts ≡ Ok (x, []) → all_of reader ts ≡ Ok (x, [])
  unfolding all_of
  whole_complete x ts h = ap (λ v. and_then v finish) h

  module _ (spell : A → List Token → List Token) (Fits : A → Type 0) (found : (n : ℕ) (ts : List Token) → Found (Reads spell Fits ts) (reader n ts)) where
    found_at : (ts : List Token) (o : Outcome A) → Found (Reads spell Fits ts) o → (p : A × List Token) → and_then o finish ≡ Ok p → Reads spell Fits ts p.0 []
    found_at ts (Ok (y, [])) h p e = subst (λ (q : A × List Token). Reads spell Fits ts q.0 []) (let f : (y, []) ≡ p = cc in f) h
    found_at ts (Ok (y, t ∷ u)) h p e = absurd cc
    found_at ts (Err f) h p e = absurd cc

    whole_sound : (ts : List Token) (p : A × List Token) → all_of reader ts ≡ Ok p → Reads spell Fits ts p.0 []
    unfolding all_of
    whole_sound ts p e = found_at ts (reader (length ts + 1) ts) (found (length ts + 1) ts) p e

-- ---- the three readers

type_sound : (y : HostType) (ts : List Token) → Reads spelled_type FitsType ts y [] → SpellsType y ts
type_sound y ts q = record { fits = q.fits; text = q.text }

pub types_exact : Exact (λ n. r.a_type) SpellsType
types_exact = record {
  sound = λ ts p e. type_sound p.0 ts (whole_sound HostType (λ n. r.a_type) spelled_type FitsType (λ n ts. a_type_found ts) ts p e);
  complete = λ y ts h. whole_complete HostType (λ n. r.a_type) y ts (ap r.a_type h.text ∙ whole_type_read y h.fits);
}

property_sound : (p : HostProperty) (ts : List Token) → Reads spelled_property FitsProperty ts p [] → SpellsProperty p ts
property_sound p ts q = record { declared_type = q.fits.declared_type; name = q.fits.name; text = q.text }

pub properties_exact : Exact (λ n. r.a_property) SpellsProperty
properties_exact = record {
  sound = λ ts p e. property_sound p.0 ts (whole_sound HostProperty (λ n. r.a_property) spelled_property FitsProperty (λ n ts. a_property_found ts) ts p e);
  complete = λ p ts h. whole_complete HostProperty (λ n. r.a_property) p ts (ap r.a_property h.text ∙ property_read p (record { declared_type = h.declared_type; name = h.name }));
}

method_sound : (f : HostFunction) (ts : List Token) → Reads spelled_function FitsFunction ts f [] → SpellsMethod f ts
method_sound f ts q = record { result = q.fits.result; name = q.fits.name; parameters = q.fits.parameters; constant = q.fits.constant; text = q.text }

pub methods_exact : Exact r.a_function SpellsMethod
methods_exact = record {
  sound = λ ts p e. method_sound p.0 ts (whole_sound HostFunction r.a_function spelled_function FitsFunction a_function_found ts p e);
  complete = λ f ts h. whole_complete HostFunction r.a_function f ts
      (ap (r.a_function (length ts + 1)) h.text
      ∙ function_read f (length ts + 1) (record { result = h.result; name = h.name; parameters = h.parameters; constant = h.constant }) (omega (arith, function-length f, ap length h.text)));
}

-- ---- forms

both : (a b : Bool) → a ≡ true → b ≡ true → a && b ≡ true
both a b h k = ap (λ x. x && b) h ∙ k

first_of_both : (a b : Bool) → a && b ≡ true → a ≡ true
first_of_both true b h = refl
first_of_both false b h = absurd cc

second_of_both : (a b : Bool) → a && b ≡ true → b ≡ true
second_of_both true b h = h
second_of_both false b h = absurd cc

-- A relation is the other one, for what is of the form.
pub record OfForm {A : Type 0} (Spells : A → List Token → Type 0) (form : A → Bool) (Formed : A → List Token → Type 0) : Type 0 where
  pub formed : (x : A) (ts : List Token) → Spells x ts → form x ≡ true → Formed x ts
  pub spelled : (x : A) (ts : List Token) → Formed x ts → Spells x ts
  pub form_is : (x : A) (ts : List Token) → Formed x ts → form x ≡ true

pub any_form : {A : Type 0} (Spells : A → List Token → Type 0) → OfForm Spells of_any_form Spells
any_form Spells = record { formed = λ x ts h f. h; spelled = λ x ts h. h; form_is = λ x ts h. refl }

pub function_form : OfForm SpellsMethod is_function_form SpellsFunction
function_form = record {
  formed = λ x ts h f. record { method = h; no_const = f };
  spelled = λ x ts h. h.method;
  form_is = λ x ts h. h.no_const;
}

pub factory_form : OfForm SpellsMethod is_factory_form SpellsFactory
factory_form = record {
  formed = λ x ts h f. record {
    function = record { method = h; no_const = first_of_both (is_none x.constant) (is_plain_handle x.result) f };
    handle = second_of_both (is_none x.constant) (is_plain_handle x.result) f;
  };
  spelled = λ x ts h. h.function.method;
  form_is = λ x ts h. both (is_none x.constant) (is_plain_handle x.result) h.function.no_const h.handle;
}
