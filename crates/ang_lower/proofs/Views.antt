-- What a module sees of the host is what its view has.
use Rattle.std.proofs.Common.{◌≡◌, ℕ, Bool, true, false, Option, Some, None, refl, sym, ◌∙◌}
use Rattle.std.specs.Prelude.{if◌then◌else◌}
use Rattle.ang_view.specs.declared.entry.Entry.{Entry}
use Rattle.ang_view.specs.Registration.{RegistrationList, entry_at}
use Rattle.ang_meaning.specs.declared.host.HostUse.{HostUse}
use Rattle.ang_meaning.specs.Environment.{Environment}
use Rattle.ang_source.specs.Hosts.{is_asked, use_of, asked_as, HasView, IsOfView}

of_kind : (V : RegistrationList) (e : ℕ) (u : HostUse) (x : Entry) (b : Bool) → is_asked x.kind ≡ b → entry_at V e ≡ Some x
    → (if b then Some (use_of x) else None) ≡ Some u → IsOfView V e u
of_kind V e u x true kind at same = record { entry = x; in_view = at; asked = kind; same = let s : use_of x ≡ u = cc in s }
of_kind V e u x false kind at same = absurd (cc)

of_entry : (V : RegistrationList) (e : ℕ) (u : HostUse) (o : Option Entry) → entry_at V e ≡ o → asked_as o ≡ Some u → IsOfView V e u
of_entry V e u None at same = absurd (cc)
of_entry V e u (Some x) at same = of_kind V e u x (is_asked x.kind) refl at same

pub seen_in : (z : Environment) (m : ℕ) (V : RegistrationList) (e : ℕ) (u : HostUse) → HasView z m V → z.host m e ≡ Some u → IsOfView V e u
seen_in z m V e u view there = of_entry V e u (entry_at V e) refl (sym (view.each e) ∙ there)
