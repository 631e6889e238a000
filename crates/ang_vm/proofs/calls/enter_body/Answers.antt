use Rattle.std.proofs.Common.{◌≡◌, ◌≤◌, ◌<◌, ◌+◌, ◌-◌, [], ◌∷◌, ◌++◌, length, sym, ap, ◌∙◌, subst, refl, arith}
use Rattle.std.specs.Prelude.{reverse}
use Rattle.std.proofs.lemmas.List.{length-reverse}
use Rattle.ang_meaning.specs.World.{with_inputs}
use Rattle.ang_meaning.specs.Environment.{params_of, has_objects}
use Rattle.ang_meaning.proofs.Telling.{told_same, told_then}
use Rattle.ang_vm_stack.specs.Stacks.{values}
use Rattle.ang_vm_stack.specs.Tables.{setting_of, texts_of}
use Rattle.ang_vm.specs.Legs.{caller_at, AllFit}
use Rattle.ang_code.specs.Machine.{begins}
use Rattle.ang_vm.proofs.Calling.{enters_lost, enters_null, enters_deep, enters_spent, enters_begins, begins_refused, begun_refused, fit_more, push_front}
use Rattle.ang_vm.proofs.Waiting.{waits_there}
use Rattle.ang_vm_stack.specs.Parameters.{want_objects, only_receiver}
use Rattle.ang_vm.proofs.Going.{height_there, params_there}
use Rattle.ang_vm.proofs.calls.enter_body.Goals as goal

pub objects_there-requires-clause-known : goal.objects_there-requires-clause-known
objects_there-requires-clause-known c = c.wants_objects.ensures.exact ∙ ap want_objects (sym c.params-params.ensures.exact)

pub objects_there-requires-clause-known_receiver : goal.objects_there-requires-clause-known_receiver
objects_there-requires-clause-known_receiver c = c.only_receiver.ensures.exact ∙ ap only_receiver (sym c.params-params.ensures.exact)

pub returns-then-params-top : goal.returns-then-params-top
returns-then-params-top c =
    let z = setting_of c.args.table.now c.args.nesting in
    let code = texts_of c.args.table.now in
    let f = c.args.from in
    let stack = c.args.stack.now.items in
    let frames = reverse c.args.frames.now.items in
    let deep : f.place.top ≤ length stack = omega (arith, c.requires.fits.values, c.requires.fits.body) in
    let params = c.params-params.ensures.exact ∙ params_there c.args.table.now c.args.body c.args.code.now c.args.nesting c.requires.known in
    let count = ap length params in
    record {
      told = λ w. told_same (λ is. enters_lost z code c.args.body stack f.place.top frames (caller_at f) f.place.ticks deep (omega (arith, count)) (with_inputs is w));
      fits = tt;
      body = tt;
      same = refl;
      grows = omega arith;
      callers = refl;
      waits = tt;
    }

pub returns-then-not-objects_there : goal.returns-then-not-objects_there
returns-then-not-objects_there c =
    let z = setting_of c.args.table.now c.args.nesting in
    let code = texts_of c.args.table.now in
    let f = c.args.from in
    let stack = c.args.stack.now.items in
    let frames = reverse c.args.frames.now.items in
    let deep : f.place.top ≤ length stack = omega (arith, c.requires.fits.values, c.requires.fits.body) in
    let params = c.params-params.ensures.exact ∙ params_there c.args.table.now c.args.body c.args.code.now c.args.nesting c.requires.known in
    let count = ap length params in
    let few : length (params_of z c.args.body) ≤ f.place.top = omega (arith, count) in
    let objects = ap (λ ps. has_objects ps (values stack f.place.top)) (sym params) ∙ sym (ap (λ l. has_objects c.params-params.result.now (values l f.place.top)) c.as_slice.ensures.value) ∙ sym c.objects_there.ensures.exact ∙ c.if-not-objects_there.true in
    record {
      told = λ w. told_same (λ is. enters_null z code c.args.body stack f.place.top frames (caller_at f) f.place.ticks deep few objects (with_inputs is w));
      fits = tt;
      body = tt;
      same = refl;
      grows = omega arith;
      callers = refl;
      waits = tt;
    }

pub returns-then-len-nesting : goal.returns-then-len-nesting
returns-then-len-nesting c =
    let z = setting_of c.args.table.now c.args.nesting in
    let code = texts_of c.args.table.now in
    let f = c.args.from in
    let stack = c.args.stack.now.items in
    let frames = reverse c.args.frames.now.items in
    let deep : f.place.top ≤ length stack = omega (arith, c.requires.fits.values, c.requires.fits.body) in
    let params = c.params-params.ensures.exact ∙ params_there c.args.table.now c.args.body c.args.code.now c.args.nesting c.requires.known in
    let count = ap length params in
    let few : length (params_of z c.args.body) ≤ f.place.top = omega (arith, count) in
    let objects = ap (λ ps. has_objects ps (values stack f.place.top)) (sym params) ∙ sym (ap (λ l. has_objects c.params-params.result.now (values l f.place.top)) c.as_slice.ensures.value) ∙ sym c.objects_there.ensures.exact ∙ c.if-not-objects_there.false in
    let callers = length-reverse c.args.frames.now.items in
    record {
      told = λ w. told_same (λ is. enters_deep z code c.args.body stack f.place.top frames (caller_at f) f.place.ticks deep few objects (omega (arith, callers, c.len.ensures, c.args.frames.now.ok.0)) (with_inputs is w));
      fits = tt;
      body = tt;
      same = refl;
      grows = omega arith;
      callers = refl;
      waits = tt;
    }

pub returns-then-from-eq0 : goal.returns-then-from-eq0
returns-then-from-eq0 c =
    let z = setting_of c.args.table.now c.args.nesting in
    let code = texts_of c.args.table.now in
    let f = c.args.from in
    let stack = c.args.stack.now.items in
    let frames = reverse c.args.frames.now.items in
    let deep : f.place.top ≤ length stack = omega (arith, c.requires.fits.values, c.requires.fits.body) in
    let params = c.params-params.ensures.exact ∙ params_there c.args.table.now c.args.body c.args.code.now c.args.nesting c.requires.known in
    let count = ap length params in
    let few : length (params_of z c.args.body) ≤ f.place.top = omega (arith, count) in
    let objects = ap (λ ps. has_objects ps (values stack f.place.top)) (sym params) ∙ sym (ap (λ l. has_objects c.params-params.result.now (values l f.place.top)) c.as_slice.ensures.value) ∙ sym c.objects_there.ensures.exact ∙ c.if-not-objects_there.false in
    let callers = length-reverse c.args.frames.now.items in
    let nests : length frames + 1 < c.args.nesting = omega (arith, callers, c.len.ensures, c.args.frames.now.ok.0) in
    record {
      told = λ w. told_same (λ is. enters_spent z code c.args.body stack f.place.top frames (caller_at f) f.place.ticks deep few objects nests (omega arith) (with_inputs is w));
      fits = tt;
      body = tt;
      same = refl;
      grows = omega arith;
      callers = refl;
      waits = tt;
    }

-- too much would wait
pub returns-then-not-may_call-clause-told : goal.returns-then-not-may_call-clause-told
returns-then-not-may_call-clause-told c = λ w.
    let z = setting_of c.args.table.now c.args.nesting in
    let code = texts_of c.args.table.now in
    let f = c.args.from in
    let stack = c.args.stack.now.items in
    let frames = reverse c.args.frames.now.items in
    let deep : f.place.top ≤ length stack = omega (arith, c.requires.fits.values, c.requires.fits.body) in
    let params = c.params-params.ensures.exact ∙ params_there c.args.table.now c.args.body c.args.code.now c.args.nesting c.requires.known in
    let count = ap length params in
    let few : length (params_of z c.args.body) ≤ f.place.top = omega (arith, count) in
    let objects = ap (λ ps. has_objects ps (values stack f.place.top)) (sym params) ∙ sym (ap (λ l. has_objects c.params-params.result.now (values l f.place.top)) c.as_slice.ensures.value) ∙ sym c.objects_there.ensures.exact ∙ c.if-not-objects_there.false in
    let callers = length-reverse c.args.frames.now.items in
    let nests : length frames + 1 < c.args.nesting = omega (arith, callers, c.len.ensures, c.args.frames.now.ok.0) in
    told_then (told_same (λ is. enters_begins z code c.args.body stack f.place.top frames (caller_at f) f.place.ticks deep few objects nests (omega arith) (with_inputs is w))) (begins_refused code c.args.body stack f.place.top (caller_at f ∷ frames) (f.place.ticks - 1) w stack refl)

-- no memory for its caller's frame
pub returns-in_default-clause-told : goal.returns-in_default-clause-told
returns-in_default-clause-told c = λ w.
    let z = setting_of c.args.table.now c.args.nesting in
    let code = texts_of c.args.table.now in
    let f = c.args.from in
    let stack = c.args.stack.now.items in
    let frames = reverse c.args.frames.now.items in
    let deep : f.place.top ≤ length stack = omega (arith, c.requires.fits.values, c.requires.fits.body) in
    let params = c.params-params.ensures.exact ∙ params_there c.args.table.now c.args.body c.args.code.now c.args.nesting c.requires.known in
    let count = ap length params in
    let few : length (params_of z c.args.body) ≤ f.place.top = omega (arith, count) in
    let objects = ap (λ ps. has_objects ps (values stack f.place.top)) (sym params) ∙ sym (ap (λ l. has_objects c.params-params.result.now (values l f.place.top)) c.as_slice.ensures.value) ∙ sym c.objects_there.ensures.exact ∙ c.if-not-objects_there.false in
    let callers = length-reverse c.args.frames.now.items in
    let nests : length frames + 1 < c.args.nesting = omega (arith, callers, c.len.ensures, c.args.frames.now.ok.0) in
    told_then (told_same (λ is. enters_begins z code c.args.body stack f.place.top frames (caller_at f) f.place.ticks deep few objects nests (omega arith) (with_inputs is w))) (begins_refused code c.args.body stack f.place.top (caller_at f ∷ frames) (f.place.ticks - 1) w stack refl)

-- no memory for its values
pub returns-in-Err-clause-told : goal.returns-in-Err-clause-told
returns-in-Err-clause-told c = λ w.
    let z = setting_of c.args.table.now c.args.nesting in
    let code = texts_of c.args.table.now in
    let f = c.args.from in
    let stack = c.args.stack.now.items in
    let frames = reverse c.args.frames.now.items in
    let deep : f.place.top ≤ length stack = omega (arith, c.requires.fits.values, c.requires.fits.body) in
    let params = c.params-params.ensures.exact ∙ params_there c.args.table.now c.args.body c.args.code.now c.args.nesting c.requires.known in
    let count = ap length params in
    let few : length (params_of z c.args.body) ≤ f.place.top = omega (arith, count) in
    let objects = ap (λ ps. has_objects ps (values stack f.place.top)) (sym params) ∙ sym (ap (λ l. has_objects c.params-params.result.now (values l f.place.top)) c.as_slice.ensures.value) ∙ sym c.objects_there.ensures.exact ∙ c.if-not-objects_there.false in
    let callers = length-reverse c.args.frames.now.items in
    let nests : length frames + 1 < c.args.nesting = omega (arith, callers, c.len.ensures, c.args.frames.now.ok.0) in
    told_then (told_same (λ is. enters_begins z code c.args.body stack f.place.top frames (caller_at f) f.place.ticks deep few objects nests (omega arith) (with_inputs is w)))
    (begun_refused c.in-Err.stop f.place.top c.begin_above.new.stack.items (caller_at f ∷ frames) (reverse c.reserve.new.self.items) w (c.in-Err.ensures.told code (caller_at f ∷ frames) w (c.height-height.ensures.exact ∙ height_there c.args.table.now c.args.body c.args.code.now c.requires.known)))

pub returns-in-Ok-begin_above-clause-told : goal.returns-in-Ok-begin_above-clause-told
returns-in-Ok-begin_above-clause-told c = λ w.
    let z = setting_of c.args.table.now c.args.nesting in
    let code = texts_of c.args.table.now in
    let f = c.args.from in
    let stack = c.args.stack.now.items in
    let frames = reverse c.args.frames.now.items in
    let deep : f.place.top ≤ length stack = omega (arith, c.requires.fits.values, c.requires.fits.body) in
    let params = c.params-params.ensures.exact ∙ params_there c.args.table.now c.args.body c.args.code.now c.args.nesting c.requires.known in
    let count = ap length params in
    let few : length (params_of z c.args.body) ≤ f.place.top = omega (arith, count) in
    let objects = ap (λ ps. has_objects ps (values stack f.place.top)) (sym params) ∙ sym (ap (λ l. has_objects c.params-params.result.now (values l f.place.top)) c.as_slice.ensures.value) ∙ sym c.objects_there.ensures.exact ∙ c.if-not-objects_there.false in
    let callers = length-reverse c.args.frames.now.items in
    let nests : length frames + 1 < c.args.nesting = omega (arith, callers, c.len.ensures, c.args.frames.now.ok.0) in
    let pushed : reverse c.push_reserved.new.self.items ≡ caller_at f ∷ frames = ap reverse c.push_reserved.ensures.items ∙ push_front c.reserve.new.self.items (caller_at f) ∙ ap (λ l. caller_at f ∷ reverse l) c.in-Ok.ensures.items in
    told_then (told_same (λ is. enters_begins z code c.args.body stack f.place.top frames (caller_at f) f.place.ticks deep few objects nests (omega arith) (with_inputs is w) ∙ ap (λ fr. begins code c.args.body (values stack f.place.top) fr (f.place.ticks - 1) (with_inputs is w)) (sym pushed))) (c.in-Ok-begin_above.ensures.told code (reverse c.push_reserved.new.self.items) w (c.height-height.ensures.exact ∙ height_there c.args.table.now c.args.body c.args.code.now c.requires.known))

pub returns-in-Ok-begin_above-clause-fits : goal.returns-in-Ok-begin_above-clause-fits
returns-in-Ok-begin_above-clause-fits c =
    let f = c.args.from in
    let stack = c.args.stack.now.items in
    let frames = reverse c.args.frames.now.items in
    let pushed : reverse c.push_reserved.new.self.items ≡ caller_at f ∷ frames = ap reverse c.push_reserved.ensures.items ∙ push_front c.reserve.new.self.items (caller_at f) ∙ ap (λ l. caller_at f ∷ reverse l) c.in-Ok.ensures.items in
    let grows : length stack ≤ length c.begin_above.new.stack.items = c.in-Ok-begin_above.ensures.grows in
    let all : AllFit (length c.begin_above.new.stack.items) (caller_at f ∷ frames) = (omega (arith, c.requires.fits.body, grows), fit_more frames (length stack) (length c.begin_above.new.stack.items) grows c.requires.fits.callers) in
    record { values = c.in-Ok-begin_above.ensures.in_room.0; body = c.in-Ok-begin_above.ensures.in_room.1; callers = subst (AllFit (length c.begin_above.new.stack.items)) (sym pushed) all }

pub returns-in-Ok-begin_above-clause-waits : goal.returns-in-Ok-begin_above-clause-waits
returns-in-Ok-begin_above-clause-waits c =
    waits_there (texts_of c.args.table.now) c.args.frames.now.items c.push_reserved.new.self.items (caller_at c.args.from) c.args.size (c.push_reserved.ensures.items ∙ ap (λ l. l ++ caller_at c.args.from ∷ []) c.in-Ok.ensures.items) (c.may_call.ensures.few c.if-not-may_call.false)
