-- Objects that come, bodies that are kept, and a method's run from entering to leaving it.
use Rattle.std.proofs.Common.{◌≡◌, ℕ, suc, Bool, true, false, List, [], ◌∷◌, length, map, Option, Some, None, refl, sym, ap, ◌∙◌, subst, arith}
use Rattle.std.specs.Prelude.{if◌then◌else◌}
use Rattle.acpi_values.specs.declared.width.Width.{Width}
use Rattle.acpi_values.specs.declared.fault.Fault.TheVariants.{WrongType}
use Rattle.acpi_values.specs.Paths.{AbsolutePath, is_same_path}
use Rattle.acpi_values.specs.Values.{Value}
use Rattle.acpi_state.specs.State.{Frame}
use Rattle.acpi_state.specs.Objects.{Object, Names, Call, lookup, without, without_all}
use Rattle.acpi_state.specs.Outcomes.{Flow, Gives, Return, Result, Done, Stopped, map_result, Outcome, Run, done, fault, then_run, act, choose}
use Rattle.acpi_state.specs.Actions.{ask}
use Rattle.acpi_state.specs.Activations.{scope_object, create_in, create, keep_body, body_at, no_locals, new_frame, enter, innermost, outer_of, leave, result_of, activation}
use Rattle.acpi_state.specs.Forms.{object_value}
use Rattle.acpi_state.specs.Sessions.{call_external}
use Rattle.asl_tree.specs.Tree.{Trees}
use Rattle.hidden_locals.specs.Worlds.{World, shown_at, mask, veiled, hide_frames, hidden_of, Clear, ClearList, ClearAll, ClearFlow, ClearFrames, numbers, ClearValues, ClearObject, ClearNames, Later, AreBegun, begun_in, ended_in}
use Rattle.hidden_locals.specs.Blind.{Blind}
use Rattle.hidden_locals.specs.Runs.{Veiled, Reach, Outside, converted, AreKept, left, right, IsFine, Ends, Joint, From}
use Rattle.hidden_locals.proofs.Places.{blind_ask}
use Rattle.hidden_locals.proofs.Forms.{blind_object}
use Rattle.hidden_locals.proofs.Worlds.{same_world, stays_then, stays_begun, stays_ended, list_later, values_later, all_later, flow_later, names_later, hide_begun, frames_begun, hide_ended, frames_ended, frames_begin, running_begun, hidden_later}
use Rattle.hidden_locals.proofs.Runs.{Any, numbers_outer, kept_where, from_done, from_fault, from_then, from_act}

abbrev AreNone : List (Option Value) → Type 0
AreNone [] = Unit {0}
AreNone (x ∷ xs) = (x ≡ None) × AreNone xs

mask_none : (shown : ℕ → Bool) (i : ℕ) (xs : List (Option Value)) → AreNone xs → mask shown i xs ≡ xs
mask_none shown i [] h = refl
mask_none shown i (x ∷ xs) h = ap (λ x. (if shown i then x else None) ∷ mask shown (suc i) xs) h.0 ∙ (both (shown i) ∙ (ap (λ ys. None ∷ ys) (mask_none shown (suc i) xs h.1) ∙ ap (λ x. x ∷ xs) (sym h.0)))
  where
    both : (c : Bool) → ((if c then None else None) ∷ mask shown (suc i) xs) ≡ None ∷ mask shown (suc i) xs
    both true = refl
    both false = refl

args_clear : (w : World) (args : List Value) → ClearAll w args → ClearList w (map Some args)
args_clear w [] h = tt
args_clear w (v ∷ vs) h = (h.0, args_clear w vs h.1)

-- a new frame has no Locals, so nothing of it is hidden
pub new_veiled : (w : World) (number : ℕ) (args : List Value) → veiled w (new_frame number args) ≡ new_frame number args
new_veiled w number args =
    ap (λ l. record (new_frame number args) { locals = l }) (mask_none (shown_at w number) 0 no_locals (refl, (refl, (refl, (refl, (refl, (refl, (refl, (refl, tt)))))))))

pub none_clear : (w : World) → ClearList w no_locals
none_clear w = (tt, (tt, (tt, (tt, (tt, (tt, (tt, (tt, tt))))))))

module _ (w : World) where
  values_without : (path : AbsolutePath) (vs : List (AbsolutePath × Value)) → ClearValues w vs → ClearValues w (without path vs)
  values_without path [] h = tt
  values_without path (v ∷ vs) h = by_same (is_same_path v.0 path) (values_without path vs h.1)
    where
      by_same : (c : Bool) → ClearValues w (without path vs) → ClearValues w (if c then without path vs else v ∷ without path vs)
      by_same true rest = rest
      by_same false rest = (h.0, rest)

  values_without_all : (paths : List AbsolutePath) (vs : List (AbsolutePath × Value)) → ClearValues w vs → ClearValues w (without_all paths vs)
  values_without_all [] vs h = h
  values_without_all (path ∷ paths) vs h = values_without path (without_all paths vs) (values_without_all paths vs h)

  names_without : (path : AbsolutePath) (vs : Names) → ClearNames w vs → ClearNames w (without path vs)
  names_without path [] h = tt
  names_without path (v ∷ vs) h = by_same (is_same_path v.0 path) (names_without path vs h.1)
    where
      by_same : (c : Bool) → ClearNames w (without path vs) → ClearNames w (if c then without path vs else v ∷ without path vs)
      by_same true rest = rest
      by_same false rest = (h.0, rest)

  names_without_all : (paths : List AbsolutePath) (vs : Names) → ClearNames w vs → ClearNames w (without_all paths vs)
  names_without_all [] vs h = h
  names_without_all (path ∷ paths) vs h = names_without path (without_all paths vs) (names_without_all paths vs h)

  outer_hidden : (fs : List Frame) → outer_of (hide_frames w fs) ≡ hide_frames (ended_in w) (outer_of fs)
  outer_hidden [] = refl
  outer_hidden (x ∷ fs) = sym (hide_ended w fs)

  outer_clear : (fs : List Frame) → ClearFrames w fs → ClearFrames (ended_in w) (outer_of fs)
  outer_clear [] h = tt
  outer_clear (x ∷ fs) h = frames_ended w fs h.4

same_result : (result : Result Flow) → result_of (map_result (λ f. f) result) ≡ map_result (λ f. f) (result_of result)
same_result (Done (Return v)) = refl
same_result (Done _) = refl
same_result (Stopped x) = refl

module _ (convert : Trees → Trees) (IsKept : Trees → Type 0) (reach : Reach) where
  -- entering: nothing of the new activation is hidden yet
  enter_same : (f : ℕ → Bool) (args : List Value) (j : Veiled) → ClearFrames j.world j.state.store.frames → enter args (left convert IsKept j) ≡ left convert IsKept (record { world = begun_in f j.world; state = enter args j.state })
  enter_same f args j h =
      let w = j.world in let s = j.state in
      ap (λ fs. record (enter args s) { store = record s.store { frames = fs } })
      (ap (λ x. x ∷ hide_frames w s.store.frames) (sym (new_veiled (begun_in f w) s.begun args)) ∙ ap (λ fs. veiled (begun_in f w) (new_frame s.begun args) ∷ fs) (sym (hide_begun f w s.store.frames h)))

  entered : (f : ℕ → Bool) (args : List Value) (j : Veiled) → ClearAll j.world args → IsFine convert IsKept j → IsFine convert IsKept (record { world = begun_in f j.world; state = enter args j.state })
  entered f args j ha fine =
      let w = j.world in let next = begun_in f j.world in let stays = stays_begun f j.world in
      record {
        names = names_later w next stays j.state.names fine.names;
        store = record {
          values = values_later w next stays j.state.store.values fine.store.values;
          frames = (none_clear next, list_later w next stays (map Some args) (args_clear w args ha), omega (arith, fine.begun), refl, frames_begun f w j.state.store.frames fine.store.frames);
          running = ap (λ n. n ∷ numbers j.state.store.frames) (sym fine.begun) ∙ ap (λ ns. length w.shown ∷ ns) fine.store.running;
          answers = all_later w next stays j.state.store.answers fine.store.answers;
        };
        begun = omega (arith, fine.begun);
        bodies = fine.bodies;
      }

  abbrev gone : Veiled → Veiled
  gone j = record { world = ended_in j.world; state = leave j.state }

  gone_fine : (j : Veiled) → IsFine convert IsKept j → IsFine convert IsKept (gone j)
  gone_fine j fine =
      let w = j.world in let after = ended_in w in let stays = stays_ended w in let paths = innermost j.state.created in
      record {
        names = names_later w after stays (without_all paths j.state.names) (names_without_all w paths j.state.names fine.names);
        store = record {
          values = values_later w after stays (without_all paths j.state.store.values) (values_without_all w paths j.state.store.values fine.store.values);
          frames = outer_clear w j.state.store.frames fine.store.frames;
          running = numbers_outer j.state.store.frames ∙ ap outer_of fine.store.running;
          answers = all_later w after stays j.state.store.answers fine.store.answers;
        };
        begun = fine.begun;
        bodies = fine.bodies;
      }

  ends : (result : Result Flow) (j : Veiled) → Ends convert IsKept ClearFlow result j → Ends convert IsKept ClearFlow (result_of result) (gone j)
  ends (Done (Return v)) j h = flow_later j.world (ended_in j.world) (stays_ended j.world) (Gives v) h
  ends (Done _) j h = tt
  ends (Stopped x) j h = h

  -- what the outer activations hide
  outer_kept : (f : ℕ → Bool) (j : Veiled) → IsFine convert IsKept j → (fs : List Frame) → numbers fs ≡ length j.world.shown ∷ j.world.running → hidden_of (begun_in f j.world) (outer_of fs) ≡ hidden_of (begun_in f j.world) j.state.store.frames → hidden_of j.world (outer_of fs) ≡ hidden_of j.world j.state.store.frames
  outer_kept f j fine fs e same =
      let w = j.world in let h = running_begun w j.state.store fine.store in
      sym (hidden_later w (begun_in f w) (stays_begun f w) (outer_of fs) (subst (λ ns. AreBegun w ns) (sym (numbers_outer fs ∙ ap outer_of e)) h))
      ∙ same
      ∙ hidden_later w (begun_in f w) (stays_begun f w) j.state.store.frames (frames_begin w j.state.store.frames fine.store.frames)

  -- a body that does the same in each world with one more activation
  pub from_activation : (w : World) (f : ℕ → Bool) (args : List Value) (m m' : Run Trees Flow) → ((w' : World) → Later w w' → ClearAll w' args) → ((w' : World) → Later w w' → AreBegun w' w'.running → From convert IsKept Outside (begun_in f w') ClearFlow (λ x. x) m m') →
      From convert IsKept reach w ClearFlow (λ x. x) (activation args m) (activation args m')
  from_activation w f args m m' ha hm = record {
    by = λ j later fine.
        let g = (hm j.world later (running_begun j.world j.state.store fine.store)).by (record { world = begun_in f j.world; state = enter args j.state }) (same_world (begun_in f j.world)) (entered f args j (ha j.world later) fine) in
        let last = g.end.world in
        record {
          result = result_of g.result;
          end = gone g.end;
          later = record { shown = stays_then j.world (begun_in f j.world) (ended_in last) (stays_begun f j.world) (stays_then (begun_in f j.world) last (ended_in last) g.later.shown (stays_ended last)); running = ap outer_of g.later.running };
          fine = gone_fine g.end g.fine;
          holds = ends g.result g.end g.holds;
          keeps = kept_where reach j.world (outer_of g.end.state.store.frames) j.state.store.frames (outer_kept f j fine g.end.state.store.frames (g.fine.store.running ∙ g.later.running) g.keeps);
          left_is =
              ap (λ s. let o = m s in record { result = result_of o.result; state = leave o.state }) (enter_same f args j fine.store.frames)
              ∙ (ap (λ (o : Outcome Trees Flow). record { result = result_of o.result; state = leave o.state }) g.left_is
              ∙ ap (λ fs. record { result = result_of g.result; state = record (leave g.end.state) { store = record (leave g.end.state).store { frames = fs } } }) (outer_hidden last g.end.state.store.frames));
          right_is =
              ap (λ (o : Outcome Trees Flow). record { result = result_of o.result; state = leave o.state }) g.right_is
              ∙ ap (λ r. record { result = r; state = right convert IsKept (gone g.end) }) (same_result g.result);
        };
  }

  -- a new object that is clear
  from_create_in : (w : World) (o : Option (Unit {0})) (old : Option Object) (path : AbsolutePath) (object : Object) → ((w' : World) → Later w w' → ClearObject w' object) → From convert IsKept reach w Any (λ x. x) (create_in o old path object) (create_in o old path object)
  from_create_in w None old path object is = from_fault convert IsKept reach w Any (λ x. x) _
  from_create_in w (Some u) (Some other) path object is = from_fault convert IsKept reach w Any (λ x. x) _
  from_create_in w (Some u) None path object is =
      record { by = λ j later fine. record { result = Done tt; end = record { world = j.world; state = (create_in (Some u) None path object j.state).state }; later = same_world j.world; fine = record { names = (is j.world later, fine.names); store = fine.store; begun = fine.begun; bodies = fine.bodies }; holds = tt; keeps = refl; left_is = refl; right_is = refl } }

  pub from_create : (w : World) (path : AbsolutePath) (object : Object) → ((w' : World) → Later w w' → ClearObject w' object) → From convert IsKept reach w Any (λ x. x) (create path object) (create path object)
  from_create w [] object is = from_fault convert IsKept reach w Any (λ x. x) _
  from_create w (seg ∷ scope) object is = record { by = λ j later fine. (from_create_in w (scope_object j.state.names scope) (lookup j.state.names (seg ∷ scope)) (seg ∷ scope) object is).by j later fine }

  -- bodies
  pub from_keep : (w : World) (path : AbsolutePath) (body : Trees) → IsKept body → From convert IsKept reach w Any (λ x. x) (keep_body path body) (keep_body path (convert body))
  from_keep w path body kept =
      record { by = λ j later fine. record { result = Done tt; end = record { world = j.world; state = (keep_body path body j.state).state }; later = same_world j.world; fine = record { names = fine.names; store = fine.store; begun = fine.begun; bodies = (kept, fine.bodies) }; holds = tt; keeps = refl; left_is = refl; right_is = refl } }

  abbrev HasKept : World → Trees → Type 0
  HasKept w body = IsKept body

  abbrev KeptThere : Option Trees → Type 0
  KeptThere None = Unit {0}
  KeptThere (Some body) = IsKept body

  abbrev convert_there : Option Trees → Option Trees
  convert_there None = None
  convert_there (Some body) = Some (convert body)

  found_kept : (bodies : List (AbsolutePath × Trees)) (path : AbsolutePath) → AreKept convert IsKept bodies → KeptThere (lookup bodies path)
  found_kept [] path h = tt
  found_kept (entry ∷ entries) path h = by_same (is_same_path entry.0 path) (found_kept entries path h.1)
    where
      by_same : (c : Bool) → KeptThere (lookup entries path) → KeptThere (if c then Some entry.1 else lookup entries path)
      by_same true rest = h.0
      by_same false rest = rest

  found_converted : (bodies : List (AbsolutePath × Trees)) (path : AbsolutePath) → lookup (converted convert IsKept bodies) path ≡ convert_there (lookup bodies path)
  found_converted [] path = refl
  found_converted (entry ∷ entries) path = by_same (is_same_path entry.0 path) (found_converted entries path)
    where
      by_same : (c : Bool) → lookup (converted convert IsKept entries) path ≡ convert_there (lookup entries path) → (if c then Some (convert entry.1) else lookup (converted convert IsKept entries) path) ≡ convert_there (if c then Some entry.1 else lookup entries path)
      by_same true e = refl
      by_same false e = e

  abbrev body_in : Option Trees → Run Trees Trees
  body_in o s = choose o (fault WrongType s) (λ body. done body s)

  pub from_body : (w : World) (path : AbsolutePath) → From convert IsKept reach w HasKept convert (body_at path) (body_at path)
  from_body w path = record { by = λ j later fine. subst (λ o. Joint convert IsKept reach HasKept convert j.world j.state.store.frames (body_in (lookup j.state.bodies path) (left convert IsKept j)) (body_in o (right convert IsKept j))) (sym (found_converted j.state.bodies path)) ((by_body (lookup j.state.bodies path) (found_kept j.state.bodies path fine.bodies)).by j later fine) }
    where
      by_body : (o : Option Trees) → KeptThere o → From convert IsKept reach w HasKept convert (body_in o) (body_in (convert_there o))
      by_body None h = from_fault convert IsKept reach w HasKept convert _
      by_body (Some body) h = from_done convert IsKept reach w HasKept convert body (λ w' later. h)

  -- an action whose result is the term's value
  pub from_given : (w : World) (a : _) → ((w' : World) → Later w w' → Blind w' (Clear w') a) → From convert IsKept reach w ClearFlow (λ f. f) (then_run (act a) (λ v. done (Gives v))) (then_run (act a) (λ v. done (Gives v)))
  from_given w a h = from_then convert IsKept reach w ClearFlow (λ f. f) _ (from_act convert IsKept reach w Clear a h) (λ w' later v p. from_done convert IsKept reach w' ClearFlow (λ f. f) (Gives v) (λ after further. flow_later w' after further.shown (Gives v) p))

  pub from_external : (w : World) (path : AbsolutePath) (args : List Value) → From convert IsKept reach w ClearFlow (λ f. f) (call_external path args) (call_external path args)
  from_external w path args = from_given w (ask (Call path args)) (λ w' later. blind_ask w' (Call path args))

  from_object : (w : World) (width : Width) (path : AbsolutePath) (object : Object) → From convert IsKept reach w ClearFlow (λ f. f) (then_run (act (object_value width path object)) (λ v. done (Gives v))) (then_run (act (object_value width path object)) (λ v. done (Gives v)))
  from_object w width path object = from_given w (object_value width path object) (λ w' later. blind_object w' width path object)
