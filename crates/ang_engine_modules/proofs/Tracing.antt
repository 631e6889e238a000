-- The frames of a run that faulted, from the last one to the first.
use Rattle.std.proofs.Common.{◌≡◌, ◌∙◌, sym, ap, ℕ, ◌-◌, ◌<◌, ◌≤◌, List, [], length, Some, None, arith}
use Rattle.std.specs.Prelude.{reverse, slice_get}
use Rattle.std.proofs.lemmas.List.{get_or-reverse, length-reverse}
use Rattle.std.proofs.lemmas.Option.{slice_get-get_or, slice_get_past}
use Rattle.ang_code.specs.declared.instruction.Frame.{Frame}
use Rattle.ang_vm.specs.declared.last.LastRun.{LastRun}
use Rattle.ang_engine_modules.specs.Traced.{frames_of}

pub frames_count : (last : LastRun) → length (frames_of last) ≡ length last.frames.items
frames_count last = length-reverse last.frames.items

-- stands for no frame
no_frame : Frame
no_frame = record { of = record { home = 0; number = 0 }; at = 0; room = 0 }

pub frame_there : (last : LastRun) (k : ℕ) → k < length last.frames.items
    → slice_get (frames_of last) k ≡ slice_get last.frames.items (length last.frames.items - 1 - k)
frame_there last k lt =
    slice_get-get_or (frames_of last) k no_frame (omega (arith, lt, frames_count last))
    ∙ ap Some (get_or-reverse last.frames.items k no_frame lt)
    ∙ sym (slice_get-get_or last.frames.items (length last.frames.items - 1 - k) no_frame (omega (arith, lt)))

pub frame_past : (last : LastRun) (k : ℕ) → length last.frames.items ≤ k → slice_get (frames_of last) k ≡ None
frame_past last k le = slice_get_past (frames_of last) k (omega (arith, le, frames_count last))

pub no_frames : (last : LastRun) → last.frames.items ≡ [] → frames_of last ≡ []
no_frames last none = ap (λ (fs : List Frame). reverse fs) none
