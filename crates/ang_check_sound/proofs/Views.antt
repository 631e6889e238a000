-- What the view of a mask has.
use Rattle.std.specs.Prelude.{◌≡◌, ℕ, Bool, true, false, if◌then◌else◌, Option, Some, None}
use Rattle.std.proofs.Common.{refl, sym, ◌∙◌}
use Rattle.ang_view.specs.declared.entry.Entry.{Entry}
use Rattle.ang_view.specs.Registration.{RegistrationList, entry_at, is_seen, seen_entry, seen}
use Rattle.ang_view.proofs.Seen.{entry_at-seen}
use Rattle.ang_check_sound.specs.Views.{Entitled}

seen_by : (b : Bool) (x y : Entry) → (if b then Some x else None) ≡ Some y → (x ≡ y) × (b ≡ true)
seen_by true x y e = (cc, refl)
seen_by false x y e = cc

entitled_by : (list : RegistrationList) (m n : ℕ) (o : Option Entry) (y : Entry) → entry_at list n ≡ o → seen_entry list m o ≡ Some y → Entitled list m n y
entitled_by list m n None y at e = cc
entitled_by list m n (Some x) y at e =
    let both = seen_by (is_seen list m x) x y e in
    record { registered = cc; is_seen = cc }

-- what the view of a mask has, the list has, and the mask sees it
pub entitled : (list : RegistrationList) (m n : ℕ) (x : Entry) → entry_at (seen list m) n ≡ Some x → Entitled list m n x
entitled list m n x e = entitled_by list m n (entry_at list n) x refl (sym (entry_at-seen list m n) ∙ e)
