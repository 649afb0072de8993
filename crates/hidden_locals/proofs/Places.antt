-- Actions put together of actions that do not see hidden Locals; and places.
use Rattle.std.proofs.Common.{◌≡◌, ℕ, zero, suc, ◌+◌, ◌<◌, Bool, true, false, List, [], ◌∷◌, length, set, Option, Some, None, refl, sym, ap, ◌∙◌, subst, arith}
use Rattle.std.specs.Prelude.{if◌then◌else◌, not, nat_eq, slice_get, Result, Ok, Err}
use Rattle.acpi_values.specs.declared.width.Width.{Width}
use Rattle.acpi_values.specs.declared.fault.Fault.{Fault}
use Rattle.acpi_values.specs.declared.fault.Fault.TheVariants.{NotFound, WrongType}
use Rattle.acpi_values.specs.Paths.{AbsolutePath, is_same_path}
use Rattle.std.proofs.lemmas.List.{length-set}
use Rattle.std.proofs.lemmas.Bool.Decides.{nat_tests}
use Rattle.acpi_values.specs.Conversions.{if_ok}
use Rattle.acpi_values.specs.Values.{Integer, String, Buffer, Value, Data, Package, Reference, Elements, no_elements, uninitialized, element, Place, Named, LocalOf, ArgOf, ElementAt, ElementOf}
use Rattle.acpi_state.specs.State.{Frame, Store}
use Rattle.acpi_state.specs.Objects.{Object, DataObject, AliasObject, Names, Event, lookup}
use Rattle.acpi_state.specs.Finds.{object_at, past_alias, reached}
use Rattle.acpi_state.specs.Outcomes.{Step, Steps, Fails, Waits, Action, choose}
use Rattle.acpi_state.specs.Actions.{give, fail, looking, change, computed, go_on, and_then, needed, emit, answered, ask, ask_number, number_of_answer, write_named}
use Rattle.acpi_state.specs.Places.{at_path, data_in, content, put, put_data, frame_of, frame_at, slot, with_frame, change_frame, element_of, element_in, byte_element, replaced_in, with_element, low_byte, bytes_with}
use Rattle.hidden_locals.specs.Worlds.{World, shown_at, mask, veiled, hide_frames, hide, hidden_in, hidden_of, Clear, AreClear, ClearPlace, ClearHeld, ClearList, ClearAll, ClearFrames, numbers, ClearValues, ClearStore, ClearObject, ClearNames}
use Rattle.hidden_locals.specs.Blind.{Given, GivenOk, BlindAt, Blind}

module _ (w : World) where
  pub blind_give : {A : Type 0} (P : A → Type 0) (a : A) → P a → Blind w P (give a)
  blind_give P a p = record { by = λ names s cn cs. record { same = refl; result = p; store = cs; keeps = refl } }

  pub blind_fail : {A : Type 0} (P : A → Type 0) (f : Fault) → Blind w P (fail f)
  blind_fail P f = record { by = λ names s cn cs. record { same = refl; result = tt; store = cs; keeps = refl } }

  pub blind_then : {A C : Type 0} {P : A → Type 0} (Q : C → Type 0) (a : Action A) (k : A → Action C) → Blind w P a → ((x : A) → P x → Blind w Q (k x)) → Blind w Q (and_then a k)
  blind_then {A} {C} {P = P} Q a k ha hk = record { by = λ names s cn cs. all names s cn (a names s) (a names (hide w s)) (ha.by names s cn cs) }
    where
      by_step : (names : Names) (s : Store) → ClearNames w names → (st : Step A) (t : Store) → Given P st → ClearStore w t → hidden_of w t.frames ≡ hidden_of w s.frames → BlindAt w Q s (go_on st k names t) (go_on st k names (hide w t))
      by_step names s cn (Steps x) t p cs e = let b = (hk x p).by names t cn cs in record { same = b.same; result = b.result; store = b.store; keeps = b.keeps ∙ e }
      by_step names s cn (Fails f) t p cs e = record { same = refl; result = tt; store = cs; keeps = e }
      by_step names s cn Waits t p cs e = record { same = refl; result = tt; store = cs; keeps = e }

      all : (names : Names) (s : Store) → ClearNames w names → (r r' : Step A × Store) → BlindAt w P s r r' → BlindAt w Q s (go_on r.0 k names r.1) (go_on r'.0 k names r'.1)
      all names s cn r r' b = subst (λ (q : Step A × Store). BlindAt w Q s (go_on r.0 k names r.1) (go_on q.0 k names q.1)) (sym b.same) (by_step names s cn r.0 r.1 b.result b.store b.keeps)

  pub blind_so : {A : Type 0} {P : A → Type 0} (Q : A → Type 0) (a : Action A) → ((x : A) → P x → Q x) → Blind w P a → Blind w Q a
  blind_so {A} {P = P} Q a f h = record { by = λ names s cn cs. let b = h.by names s cn cs in record { same = b.same; result = go (a names s).0 b.result; store = b.store; keeps = b.keeps } }
    where
      go : (st : Step A) → Given P st → Given Q st
      go (Steps x) p = f x p
      go (Fails g) p = tt
      go Waits p = tt

  pub blind_computed : {A : Type 0} (P : A → Type 0) (r : Result A Fault) → GivenOk P r → Blind w P (computed r)
  blind_computed P (Ok a) p = blind_give P a p
  blind_computed P (Err f) p = blind_fail P f

  pub blind_needed : {A : Type 0} (P : A → Type 0) (f : Fault) (o : Option A) → ((a : A) → o ≡ Some a → P a) → Blind w P (needed f o)
  blind_needed P f None h = blind_fail P f
  blind_needed P f (Some a) h = blind_give P a (h a refl)

  -- a look at the objects alone
  pub blind_names : {A : Type 0} (P : A → Type 0) (g : Names → Action A) → ((names : Names) → ClearNames w names → Blind w P (g names)) → Blind w P (looking (λ names s. g names))
  blind_names P g h = record { by = λ names s cn cs. (h names cn).by names s cn cs }

  pub blind_emit : (event : Event) → Blind w (λ u. Unit {0}) (emit event)
  blind_emit event = record { by = λ names s cn cs. record { same = refl; result = tt; store = record { values = cs.values; frames = cs.frames; running = cs.running; answers = cs.answers }; keeps = refl } }

  pub blind_ask : (event : Event) → Blind w (Clear w) (ask event)
  blind_ask event = record { by = λ names s cn cs. by_answers s s.answers cs cs.answers }
    where
      by_answers : (s : Store) (vs : List Value) → ClearStore w s → ClearAll w vs → BlindAt w (Clear w) s (answered event vs s) (answered event vs (hide w s))
      by_answers s [] cs h = record { same = refl; result = tt; store = record { values = cs.values; frames = cs.frames; running = cs.running; answers = cs.answers }; keeps = refl }
      by_answers s (v ∷ vs) cs h = record { same = refl; result = h.0; store = record { values = cs.values; frames = cs.frames; running = cs.running; answers = h.1 }; keeps = refl }

  pub blind_ask_number : (event : Event) → Blind w (λ n. Unit {0}) (ask_number event)
  blind_ask_number event = blind_then (λ n. Unit {0}) (ask event) (λ answer. give (number_of_answer answer)) (blind_ask event) (λ v p. blind_give (λ n. Unit {0}) (number_of_answer v) tt)

  pub blind_write_named : (path : AbsolutePath) (v : Value) → Clear w v → Blind w (λ u. Unit {0}) (write_named path v)
  blind_write_named path v p = record { by = λ names s cn cs. record { same = refl; result = tt; store = record { values = (p, cs.values); frames = cs.frames; running = cs.running; answers = cs.answers }; keeps = refl } }

  -- what stands somewhere
  abbrev pub ClearFound : Option (AbsolutePath × Object) → Type 0
  ClearFound None = Unit {0}
  ClearFound (Some found) = ClearObject w found.1

  abbrev pub ClearIfObject : Option Object → Type 0
  ClearIfObject None = Unit {0}
  ClearIfObject (Some object) = ClearObject w object

  lookup_object : (names : Names) (path : AbsolutePath) → ClearNames w names → ClearIfObject (lookup names path)
  lookup_object [] path h = tt
  lookup_object (entry ∷ entries) path h = by_same (is_same_path entry.0 path) (lookup_object entries path h.1)
    where
      by_same : (c : Bool) → ClearIfObject (lookup entries path) → ClearIfObject (if c then Some entry.1 else lookup entries path)
      by_same true rest = h.0
      by_same false rest = rest

  pub lookup_clear : (values : List (AbsolutePath × Value)) (path : AbsolutePath) → ClearValues w values → ClearHeld w (lookup values path)
  lookup_clear [] path h = tt
  lookup_clear (entry ∷ entries) path h = by_same (is_same_path entry.0 path) (lookup_clear entries path h.1)
    where
      by_same : (c : Bool) → ClearHeld w (lookup entries path) → ClearHeld w (if c then Some entry.1 else lookup entries path)
      by_same true rest = h.0
      by_same false rest = rest

  object_clear : (names : Names) (path : AbsolutePath) → ClearNames w names → ClearIfObject (object_at names path)
  object_clear names [] h = tt
  object_clear names (seg ∷ scope) h = lookup_object names (seg ∷ scope) h

  pub reached_clear : (names : Names) (path : AbsolutePath) → ClearNames w names → ClearFound (reached names path)
  reached_clear names path h = by_object (object_at names path) (object_clear names path h)
    where
      at_target : (target : AbsolutePath) (o : Option Object) → ClearIfObject o → ClearFound (choose o None (λ object. Some (target, object)))
      at_target target None k = tt
      at_target target (Some object) k = k

      by_object : (o : Option Object) → ClearIfObject o → ClearFound (choose o None (past_alias names path))
      by_object None k = tt
      by_object (Some (AliasObject target)) k = at_target target (object_at names target) (object_clear names target h)
      by_object (Some object) k = k

  pub blind_at : {A : Type 0} (P : A → Type 0) (path : AbsolutePath) (f : Option (AbsolutePath × Object) → Action A) → ((o : Option (AbsolutePath × Object)) → ClearFound o → Blind w P (f o)) → Blind w P (at_path path f)
  blind_at P path f h = record { by = λ names s cn cs. (h (reached names path) (reached_clear names path cn)).by names s cn cs }

  pub blind_data_in : (o : Option (AbsolutePath × Object)) → Blind w (ClearHeld w) (data_in o)
  blind_data_in None = blind_fail (ClearHeld w) NotFound
  blind_data_in (Some (path, DataObject)) = record { by = λ names s cn cs. by_value names s cn cs (lookup s.values path) (lookup_clear s.values path cs.values) }
    where
      by_value : (names : Names) (s : Store) → ClearNames w names → ClearStore w s → (o : Option Value) → ClearHeld w o → BlindAt w (ClearHeld w) s (choose o (fail NotFound) (λ v. give (Some v)) names s) (choose o (fail NotFound) (λ v. give (Some v)) names (hide w s))
      by_value names s cn cs None h = record { same = refl; result = tt; store = cs; keeps = refl }
      by_value names s cn cs (Some v) h = record { same = refl; result = h; store = cs; keeps = refl }
  blind_data_in (Some (path, object)) = blind_fail (ClearHeld w) WrongType

  -- Locals
  pub slot_mask : (shown : ℕ → Bool) (xs : List (Option Value)) (i k j : ℕ) → j ≡ i + k → shown j ≡ true → slot (slice_get (mask shown i xs) k) ≡ slot (slice_get xs k)
  slot_mask shown [] i k j e h = refl
  slot_mask shown (x ∷ xs) i zero j e h =
      let at : shown i ≡ true = subst (λ n. shown n ≡ true) (omega (arith, e)) h in ap (λ b. slot (Some (if b then x else None))) at
  slot_mask shown (x ∷ xs) i (suc k) j e h = slot_mask shown xs (suc i) k j (omega (arith, e)) h

  set_mask : (shown : ℕ → Bool) (xs : List (Option Value)) (i k j : ℕ) (v : Option Value) → j ≡ i + k → shown j ≡ true → set (mask shown i xs) k v ≡ mask shown i (set xs k v)
  set_mask shown [] i k j v e h = refl
  set_mask shown (x ∷ xs) i zero j v e h =
      let at : shown i ≡ true = subst (λ n. shown n ≡ true) (omega (arith, e)) h in ap (λ b. (if b then v else None) ∷ mask shown (suc i) xs) (sym at)
  set_mask shown (x ∷ xs) i (suc k) j v e h = ap (λ ys. (if shown i then x else None) ∷ ys) (set_mask shown xs (suc i) k j v (omega (arith, e)) h)

  -- a shown Local that is set changes no hidden one
  hidden_set : (shown : ℕ → Bool) (xs : List (Option Value)) (i k j : ℕ) (v : Option Value) → j ≡ i + k → shown j ≡ true → mask (λ i. not (shown i)) i (set xs k v) ≡ mask (λ i. not (shown i)) i xs
  hidden_set shown [] i k j v e h = refl
  hidden_set shown (x ∷ xs) i zero j v e h =
      let at : shown i ≡ true = subst (λ n. shown n ≡ true) (omega (arith, e)) h in
      ap (λ b. (if not b then v else None) ∷ mask (λ i. not (shown i)) (suc i) xs) at ∙ ap (λ b. (if not b then x else None) ∷ mask (λ i. not (shown i)) (suc i) xs) (sym at)
  hidden_set shown (x ∷ xs) i (suc k) j v e h = ap (λ ys. (if not (shown i) then x else None) ∷ ys) (hidden_set shown xs (suc i) k j v (omega (arith, e)) h)

  pub slot_clear : (xs : List (Option Value)) (i : ℕ) → ClearList w xs → ClearHeld w (slot (slice_get xs i))
  slot_clear [] i h = tt
  slot_clear (x ∷ xs) zero h = h.0
  slot_clear (x ∷ xs) (suc i) h = slot_clear xs i h.1

  pub set_clear : (xs : List (Option Value)) (i : ℕ) (v : Value) → Clear w v → ClearList w xs → ClearList w (set xs i (Some v))
  set_clear [] i v p h = tt
  set_clear (x ∷ xs) zero v p h = (p, h.1)
  set_clear (x ∷ xs) (suc i) v p h = (h.0, set_clear xs i v p h.1)

  -- the frame of a number, on both sides
  abbrev veiled_frame : Option Frame → Option Frame
  veiled_frame None = None
  veiled_frame (Some f) = Some (veiled w f)

  frame_hidden : (n : ℕ) (fs : List Frame) → frame_of n (hide_frames w fs) ≡ veiled_frame (frame_of n fs)
  frame_hidden n [] = refl
  frame_hidden n (f ∷ fs) = by_same (nat_eq f.number n) (frame_hidden n fs)
    where
      by_same : (c : Bool) → frame_of n (hide_frames w fs) ≡ veiled_frame (frame_of n fs) → (if c then Some (veiled w f) else frame_of n (hide_frames w fs)) ≡ veiled_frame (if c then Some f else frame_of n fs)
      by_same true e = refl
      by_same false e = e

  same_number : (n m : ℕ) → nat_eq n m ≡ true → n ≡ m
  same_number n m e = grind (arith, nat_tests, e)

  abbrev in_frame : (Frame → Option Value) → Option Frame → Action (Option Value)
  in_frame g o = and_then (needed NotFound o) (λ frame. give (g frame))

  abbrev frame_changed : ℕ → (Frame → Frame) → Option Frame → Action (Unit {0})
  frame_changed n g o = and_then (needed NotFound o) (λ frame. change (λ s. record s { frames = with_frame n g s.frames }))

  -- what a frame has that is the same on both sides
  blind_in_frame : (n : ℕ) (g : Frame → Option Value) → ((f : Frame) → f.number ≡ n → g (veiled w f) ≡ g f) → ((f : Frame) → ClearList w f.locals → ClearList w f.args → ClearHeld w (g f)) → Blind w (ClearHeld w) (and_then (frame_at n) (λ frame. give (g frame)))
  blind_in_frame n g hs hc = record { by = λ names s cn cs. by_frames names s cs s.frames cs.frames }
    where
      by_frames : (names : Names) (s : Store) → ClearStore w s → (fs : List Frame) → ClearFrames w fs → BlindAt w (ClearHeld w) s (in_frame g (frame_of n fs) names s) (in_frame g (frame_of n (hide_frames w fs)) names (hide w s))
      by_frames names s cs [] h = record { same = refl; result = tt; store = cs; keeps = refl }
      by_frames names s cs (f ∷ fs) h = by_same (nat_eq f.number n) refl (by_frames names s cs fs h.4)
        where
          by_same : (c : Bool) → nat_eq f.number n ≡ c → BlindAt w (ClearHeld w) s (in_frame g (frame_of n fs) names s) (in_frame g (frame_of n (hide_frames w fs)) names (hide w s)) → BlindAt w (ClearHeld w) s (in_frame g (if c then Some f else frame_of n fs) names s) (in_frame g (if c then Some (veiled w f) else frame_of n (hide_frames w fs)) names (hide w s))
          by_same true e rest = record { same = ap (λ v. (Steps v, hide w s)) (hs f (same_number f.number n e)); result = hc f h.0 h.1; store = cs; keeps = refl }
          by_same false e rest = rest

  blind_change_frame : (n : ℕ) (g : Frame → Frame) → ((f : Frame) → (g f).number ≡ f.number) → ((f : Frame) → f.number ≡ n → g (veiled w f) ≡ veiled w (g f)) → ((f : Frame) → ClearList w f.locals → ClearList w f.args → ClearList w (g f).locals × ClearList w (g f).args) → ((f : Frame) → length (g f).locals ≡ length f.locals)
      → ((f : Frame) → f.number ≡ n → hidden_in w (g f) ≡ hidden_in w f) → Blind w (λ u. Unit {0}) (change_frame n g)
  blind_change_frame n g hn hs hc hl hk = record { by = λ names s cn cs. subst (λ o. BlindAt w (λ u. Unit {0}) s (frame_changed n g (frame_of n s.frames) names s) (frame_changed n g o names (hide w s))) (sym (frame_hidden n s.frames)) (by_frame names s cs (frame_of n s.frames)) }
    where
      with_hidden : (fs : List Frame) → with_frame n g (hide_frames w fs) ≡ hide_frames w (with_frame n g fs)
      with_hidden [] = refl
      with_hidden (f ∷ fs) = by_same (nat_eq f.number n) refl (with_hidden fs)
        where
          by_same : (c : Bool) → nat_eq f.number n ≡ c → with_frame n g (hide_frames w fs) ≡ hide_frames w (with_frame n g fs) → (if c then g (veiled w f) ∷ hide_frames w fs else veiled w f ∷ with_frame n g (hide_frames w fs)) ≡ hide_frames w (if c then g f ∷ fs else f ∷ with_frame n g fs)
          by_same true e rest = ap (λ f. f ∷ hide_frames w fs) (hs f (same_number f.number n e))
          by_same false e rest = ap (λ fs. veiled w f ∷ fs) rest

      with_clear : (fs : List Frame) → ClearFrames w fs → ClearFrames w (with_frame n g fs)
      with_clear [] h = tt
      with_clear (f ∷ fs) h = by_same (nat_eq f.number n) (with_clear fs h.4)
        where
          by_same : (c : Bool) → ClearFrames w (with_frame n g fs) → ClearFrames w (if c then g f ∷ fs else f ∷ with_frame n g fs)
          by_same true rest = let k = hc f h.0 h.1 in (k.0, k.1, subst (λ n. n < length w.shown) (sym (hn f)) h.2, hl f ∙ h.3, h.4)
          by_same false rest = (h.0, h.1, h.2, h.3, rest)

      numbers_with : (fs : List Frame) → numbers (with_frame n g fs) ≡ numbers fs
      numbers_with [] = refl
      numbers_with (f ∷ fs) = by_same (nat_eq f.number n) (numbers_with fs)
        where
          by_same : (c : Bool) → numbers (with_frame n g fs) ≡ numbers fs → numbers (if c then g f ∷ fs else f ∷ with_frame n g fs) ≡ f.number ∷ numbers fs
          by_same true rest = ap (λ k. k ∷ numbers fs) (hn f)
          by_same false rest = ap (λ ks. f.number ∷ ks) rest

      hidden_with : (fs : List Frame) → hidden_of w (with_frame n g fs) ≡ hidden_of w fs
      hidden_with [] = refl
      hidden_with (f ∷ fs) = by_same (nat_eq f.number n) refl (hidden_with fs)
        where
          by_same : (c : Bool) → nat_eq f.number n ≡ c → hidden_of w (with_frame n g fs) ≡ hidden_of w fs → hidden_of w (if c then g f ∷ fs else f ∷ with_frame n g fs) ≡ hidden_in w f ∷ hidden_of w fs
          by_same true e rest = ap (λ l. l ∷ hidden_of w fs) (hk f (same_number f.number n e))
          by_same false e rest = ap (λ ls. hidden_in w f ∷ ls) rest

      by_frame : (names : Names) (s : Store) → ClearStore w s → (o : Option Frame) → BlindAt w (λ u. Unit {0}) s (frame_changed n g o names s) (frame_changed n g (veiled_frame o) names (hide w s))
      by_frame names s cs None = record { same = refl; result = tt; store = cs; keeps = refl }
      by_frame names s cs (Some f) = record { same = ap (λ fs. (Steps tt, record s { frames = fs })) (with_hidden s.frames); result = tt; store = record { values = cs.values; frames = with_clear s.frames cs.frames; running = numbers_with s.frames ∙ cs.running; answers = cs.answers }; keeps = hidden_with s.frames }

  -- elements
  abbrev pub Fine : {A : Type 0} → A → Type 0
  Fine a = Unit {0}

  pub if_ok_clear : {A C : Type 0} (P : C → Type 0) (r : Result A Fault) (k : A → Result C Fault) → ((a : A) → GivenOk P (k a)) → GivenOk P (if_ok r k)
  if_ok_clear P (Ok a) k h = h a
  if_ok_clear P (Err f) k h = tt

  pub if_ok_given : {A C : Type 0} (Q : A → Type 0) (P : C → Type 0) (r : Result A Fault) (k : A → Result C Fault) → GivenOk Q r → ((a : A) → Q a → GivenOk P (k a)) → GivenOk P (if_ok r k)
  if_ok_given Q P (Ok a) k q h = h a q
  if_ok_given Q P (Err f) k q h = tt

  byte_clear : (o : Option ℕ) → GivenOk (ClearHeld w) (byte_element o)
  byte_clear None = tt
  byte_clear (Some byte) = tt

  in_clear : (es : Elements) (i : ℕ) → AreClear w es → GivenOk (ClearHeld w) (element_in es i)
  in_clear no_elements i h = tt
  in_clear (uninitialized rest) zero h = tt
  in_clear (uninitialized rest) (suc i) h = in_clear rest i h
  in_clear (element v rest) zero h = h.0
  in_clear (element v rest) (suc i) h = in_clear rest i h.1

  pub of_clear : (o : Option Value) (i : ℕ) → ClearHeld w o → GivenOk (ClearHeld w) (element_of o i)
  of_clear None i h = tt
  of_clear (Some (Data (Integer n))) i h = tt
  of_clear (Some (Data (String text))) i h = byte_clear (slice_get text i)
  of_clear (Some (Data (Buffer bytes))) i h = byte_clear (slice_get bytes i)
  of_clear (Some (Package es)) i h = in_clear es i h
  of_clear (Some (Reference place)) i h = tt

  replaced_clear : (es : Elements) (i : ℕ) (v : Value) → AreClear w es → Clear w v → GivenOk (AreClear w) (replaced_in es i v)
  replaced_clear no_elements i v h p = tt
  replaced_clear (uninitialized rest) zero v h p = (p, h)
  replaced_clear (uninitialized rest) (suc i) v h p = if_ok_given (AreClear w) (AreClear w) (replaced_in rest i v) _ (replaced_clear rest i v h p) (λ a q. q)
  replaced_clear (element u rest) zero v h p = (p, h.1)
  replaced_clear (element u rest) (suc i) v h p = if_ok_given (AreClear w) (AreClear w) (replaced_in rest i v) _ (replaced_clear rest i v h.1 p) (λ a q. (h.0, q))

  pub with_clear : (width : Width) (o : Option Value) (i : ℕ) (v : Value) → ClearHeld w o → Clear w v → GivenOk (Clear w) (with_element width o i v)
  with_clear width None i v h p = tt
  with_clear width (Some (Data (Integer n))) i v h p = tt
  with_clear width (Some (Data (String text))) i v h p = if_ok_clear (Clear w) (low_byte width v) _ (λ byte. if_ok_clear (Clear w) (bytes_with text i byte (slice_get text i)) _ (λ text. tt))
  with_clear width (Some (Data (Buffer bytes))) i v h p = if_ok_clear (Clear w) (low_byte width v) _ (λ byte. if_ok_clear (Clear w) (bytes_with bytes i byte (slice_get bytes i)) _ (λ bytes. tt))
  with_clear width (Some (Package es)) i v h p = if_ok_given (AreClear w) (Clear w) (replaced_in es i v) _ (replaced_clear es i v h p) (λ es q. q)
  with_clear width (Some (Reference place)) i v h p = tt

  shown_here : (n i : ℕ) (f : Frame) → f.number ≡ n → shown_at w n i ≡ true → shown_at w f.number i ≡ true
  shown_here n i f e h = subst (λ m. shown_at w m i ≡ true) (sym e) h

  pub blind_content : (place : Place) → ClearPlace w place → Blind w (ClearHeld w) (content place)
  blind_content (Named path) h = blind_at (ClearHeld w) path data_in (λ o c. blind_data_in o)
  blind_content (LocalOf n i) h = blind_in_frame n (λ frame. slot (slice_get frame.locals i)) (λ f e. slot_mask (shown_at w f.number) f.locals 0 i i (omega arith) (shown_here n i f e h)) (λ f l a. slot_clear f.locals i l)
  blind_content (ArgOf n i) h = blind_in_frame n (λ frame. slot (slice_get frame.args i)) (λ f e. refl) (λ f l a. slot_clear f.args i a)
  blind_content (ElementAt place i) h = blind_then (ClearHeld w) (content place) _ (blind_content place h) (λ v p. blind_computed (ClearHeld w) (element_of v i) (of_clear v i p))
  blind_content (ElementOf v i) h = blind_computed (ClearHeld w) (element_of (Some v) i) (of_clear (Some v) i h)

  blind_put_data : (v : Value) → Clear w v → (o : Option (AbsolutePath × Object)) → Blind w Fine (put_data v o)
  blind_put_data v p None = blind_fail Fine NotFound
  blind_put_data v p (Some (path, DataObject)) = blind_write_named path v p
  blind_put_data v p (Some (path, object)) = blind_fail Fine WrongType

  pub blind_put : (width : Width) (place : Place) (v : Value) → ClearPlace w place → Clear w v → Blind w Fine (put width place v)
  blind_put width (Named path) v h p = blind_at Fine path (put_data v) (λ o c. blind_put_data v p o)
  blind_put width (LocalOf n i) v h p =
      blind_change_frame n (λ frame. record frame { locals = set frame.locals i (Some v) }) (λ f. refl)
      (λ f e. ap (λ l. record f { locals = l }) (set_mask (shown_at w f.number) f.locals 0 i i (Some v) (omega arith) (shown_here n i f e h))) (λ f l a. (set_clear f.locals i v p l, a)) (λ f. length-set f.locals i (Some v)) (λ f e. hidden_set (shown_at w f.number) f.locals 0 i i (Some v) (omega arith) (shown_here n i f e h))
  blind_put width (ArgOf n i) v h p = blind_change_frame n (λ frame. record frame { args = set frame.args i (Some v) }) (λ f. refl) (λ f e. refl) (λ f l a. (l, set_clear f.args i v p a)) (λ f. refl) (λ f e. refl)
  blind_put width (ElementAt place i) v h p =
      blind_then Fine (content place) _ (blind_content place h)
      (λ old q. blind_then Fine (computed (with_element width old i v)) (put width place) (blind_computed (Clear w) (with_element width old i v) (with_clear width old i v q p)) (λ new r. blind_put width place new h r))
  blind_put width (ElementOf u i) v h p = blind_give Fine tt tt
