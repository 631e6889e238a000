-- What is refused of classes and interfaces by their numbers, and which methods these have.
use Rattle.std.specs.Prelude.{ℕ, ◌+◌, Bool, if◌then◌else◌, List, [], ◌∷◌, ◌++◌, length, Option, Some, None, option_to_list, slice_get}
use Rattle.std.specs.List.{flat_map}
use Rattle.ang_kinds.specs.declared.error.ErrorKind.{ErrorKind}
use Rattle.ang_kinds.specs.declared.error.ErrorKind.TheVariants as kind
use Rattle.ang_types.specs.declared.asks.Refused.{Refused}
use Rattle.ang_names_graph.specs.Tables.{edges_of}
use Rattle.ang_names_known.specs.declared.names.Family.{Family}
use Rattle.ang_names_known.specs.declared.names.ScriptMethod.{ScriptMethod}
use Rattle.ang_names_known.specs.Items.{list_or}
use Rattle.ang_names.specs.Heirs.{at_name, heir_refusal}

-- what is refused of these, the first of which has this number
abbrev pub refused_from : (ℕ → Family → Option Refused) → ℕ → List Family → List Refused
refused_from p c [] = []
refused_from p c (f ∷ fs) = option_to_list (p c f) ++ refused_from p (c + 1) fs

-- by a table of n rows, family c leads to itself
abbrev pub ring_refusal : ErrorKind → List Bool → ℕ → ℕ → Family → Option Refused
ring_refusal why table n c f = at_name why (edges_of table n c c) f

-- the members that don't fit with what is inherited; where all fit, the classes that reach themselves
abbrev pub heirs_or_cycles : List Bool → List Family → List Refused
heirs_or_cycles reached fs =
    list_or (refused_from (heir_refusal fs) 0 fs) (refused_from (ring_refusal kind.Cyclic reached (length fs)) 0 fs)

-- What the phases over families together refuse, by the tables of what stands above what and of what reaches what.
abbrev pub heritage_refusals : List Bool → List Bool → List Family → List Refused
heritage_refusals over reached fs = list_or (refused_from (ring_refusal kind.BadBase over (length fs)) 0 fs) (heirs_or_cycles reached fs)

abbrev pub methods_in : Option Family → List ScriptMethod
methods_in None = []
methods_in (Some f) = f.methods

-- the methods of the families of these numbers, in their order
abbrev pub methods_at : List Family → List ℕ → List ScriptMethod
methods_at fs ns = flat_map (λ n. methods_in (slice_get fs n)) ns

abbrev pub interface_methods : Option Family → List ScriptMethod
interface_methods None = []
interface_methods (Some f) = if f.is_class then [] else f.methods

-- the methods of those of them that are interfaces
abbrev pub interface_methods_at : List Family → List ℕ → List ScriptMethod
interface_methods_at fs ns = flat_map (λ n. interface_methods (slice_get fs n)) ns
