-- The code of a table does what the trees of its modules mean.
use Rattle.std.proofs.Common.{◌≡◌, ◌∙◌, ℕ, zero, suc, List, [], ◌∷◌, refl, sym, ap, subst}
use Rattle.std.specs.Prelude.{slice_index_or}
use Rattle.ang_source.specs.Meaning.{codes_in, nothing}
use Rattle.ang_vm_stack.specs.declared.table.Table.{Table}
use Rattle.ang_vm_stack.specs.Tables.{module_at as code_at, text_in, height_in, texts_of}
use Rattle.ang_gen.specs.Behaves.{IsModule, BehavesAsSource, NeverStuck}
use Rattle.ang_gen.proofs.Composed.{behaves_as_source, never_stuck}
use Rattle.ang_core.specs.Sound.{LinksFit}
use Rattle.ang_lower.proofs.Methods.{methods_fit}
use Rattle.ang_engine_modules.specs.Modules.{Module, module_at, trees_of}
use Rattle.ang_engine_modules.specs.Executed.{setting_for}
use Rattle.ang_engine_modules.specs.Loaded.{codes_of, IsTableOf}

-- where no module is there is no tree
tree_at : (ms : List Module) (m : ℕ) → slice_index_or (trees_of ms) m nothing ≡ (module_at ms m).tree
tree_at [] m = refl
tree_at (x ∷ xs) zero = refl
tree_at (x ∷ xs) (suc m) = tree_at xs m

module _ (t : Table) (ms : List Module) (is : IsTableOf t ms) (nesting : ℕ) where
  is_module : (m : ℕ) → IsModule (setting_for ms nesting) m (module_at ms m).view (module_at ms m).tree (texts_of t)
  is_module m =
      let x = is.each m in
      record {
        sound = x.sound;
        view = record { each = λ e. refl };
        program = record { bodies = λ k. refl; imports = λ i. refl; slots = λ s. refl; classes = λ n. refl; methods = λ n s. refl };
        codes = codes_of (code_at t m);
        compiled = x.compiled;
        texts = record { text = λ k c at. ap text_in at; height = λ k c at. ap height_in at };
      }

  is_listed : (m : ℕ) → IsModule (setting_for ms nesting) m (module_at ms m).view (slice_index_or (trees_of ms) m nothing) (texts_of t)
  is_listed m = subst (λ p. IsModule (setting_for ms nesting) m (module_at ms m).view p (texts_of t)) (sym (tree_at ms m)) (is_module m)

  -- imports lead where they may, and methods fit their slots
  links_fit : LinksFit (setting_for ms nesting)
  links_fit = record {
    same = λ m i g there. let f = is.linked.each m i g there in f.function ∙ sym f.declared;
    methods = λ m c s g there.
        methods_fit (module_at ms m).view (setting_for ms nesting) m (module_at ms m).tree (is_module m).sound (is_module m).program c s g there;
  }

  pub behaves : BehavesAsSource (setting_for ms nesting) (codes_in (trees_of ms)) (texts_of t)
  behaves =
      behaves_as_source (setting_for ms nesting) (λ m. (module_at ms m).view) (λ m. slice_index_or (trees_of ms) m nothing) (texts_of t) is_listed links_fit

  pub never : NeverStuck (setting_for ms nesting) (texts_of t)
  never = never_stuck (setting_for ms nesting) (codes_in (trees_of ms)) (texts_of t) behaves
