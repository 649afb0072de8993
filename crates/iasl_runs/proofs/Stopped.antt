-- A delivery that stops, and is then told.
use Rattle.std.proofs.Common.{◌≡◌, ◌⊎◌, inl, inr, ℕ, ◌≤◌, List, [], take, drop, map, refl, Result, Err, Option, arith}
use Rattle.iasl_ports.specs.Counts.{Rose, Quiet}
use Rattle.iasl_ports.specs.Gained.{Named, Gains, GainsSome, IsPartOfFirst}
use Rattle.iasl_ports.specs.GainedLaws.{gains_then}
use Rattle.iasl_ports.specs.Delivery.{name_and_bytes}
use Rattle.iasl_ports.specs.declared.delivery.Due.{Due}
use Rattle.iasl_ports.specs.declared.delivery.Stop.{Stop}
use Rattle.iasl_ports.specs.declared.delivery.Stop.TheVariants.{Fault, Memory}
use Rattle.iasl_runs.specs.Ends.{OutputsSeen, ConsoleSeen, Delivers, Fails}

pub torn_as : {torn tears : Type 0} {old new : Option (List Named)} {due : List Named} → (torn → tears) → GainsSome torn old new due → GainsSome tears old new due
torn_as {torn} {tears} {old} {new} {due} as_told some = record { whole = some.whole; part = some.part; gained = some.gained; next = next some.next }
  where
    next : (some.part ≡ []) ⊎ (torn × IsPartOfFirst (drop some.whole due) some.part) → (some.part ≡ []) ⊎ (tears × IsPartOfFirst (drop some.whole due) some.part)
    next (inl e) = inl e
    next (inr p) = inr (as_told p.0, p.1)

-- an error is the only one of its kind
pub same_error : {T : Type 0} (stop other : Stop) → ◌≡◌ {A = Result T Stop} (Err stop) (Err other) → stop ≡ other
same_error stop other e = cc e

-- what a delivery that stops leaves
pub record Stops (due : Due) (stop : Stop) (put now_put : OutputsSeen) (told now_told : ConsoleSeen) : Type 0 where
  pub files : GainsSome ((stop ≡ Fault) × Rose put.faults now_put.faults) put.written now_put.written (map name_and_bytes due.files.items)
  pub all_but_told : stop ≡ Fault → Quiet put.faults now_put.faults → Gains put.written now_put.written (map name_and_bytes due.files.items)
  pub cause : stop ≡ Fault → Rose put.faults now_put.faults ⊎ Rose told.faults now_told.faults
  pub text : (n : ℕ) × Gains told.told now_told.told (take n due.text)
  pub no_text : Quiet told.faults now_told.faults → Gains told.told now_told.told []
  pub no_text_yet : stop ≡ Memory → Gains told.told now_told.told []
  pub memory_calm : stop ≡ Memory → now_put.faults ≡ put.faults
  pub put_later : put.faults ≤ now_put.faults
  pub told_later : told.faults ≤ now_told.faults

module _ (fault memory : List ℕ) (due : Due) (status : ℕ) (put now_put : OutputsSeen) (told mid now_told : ConsoleSeen) where
  pub delivers_stopped : (stop : Stop) → Stops due stop put now_put told mid → Fails fault memory stop status mid now_told → Delivers fault memory due status put now_put told now_told
  delivers_stopped Fault s f =
      let three : status ≡ 3 = f.is in
      record {
        is = inr (inl (three, later (s.cause refl)));
        outs = record { ended = λ h. absurd (omega (arith, three)); stopped = λ h. torn_as (λ t. (t.1, three)) s.files; all_but_told = λ h q. s.all_but_told refl q };
        console = record { ended = λ h. absurd (omega (arith, three)); torn = λ h. (s.text.0, f.torn.0, gains_then s.text.1 f.torn.1) };
        fault_told = record { fault_whole = λ h q. gains_then (s.no_text (omega (arith, q, s.told_later, f.later))) (f.whole (omega (arith, q, s.told_later, f.later))); memory_whole = λ h. absurd (omega (arith, three)); memory_torn = λ h. absurd (omega (arith, three)) };
        put_calm = λ h. absurd (omega (arith, three));
        told_calm = λ h. absurd (omega (arith, three));
        memory_calm = λ h. absurd (omega (arith, three));
        put_later = s.put_later;
        told_later = omega (arith, s.told_later, f.later);
      }
    where
      later : Rose put.faults now_put.faults ⊎ Rose told.faults mid.faults → Rose put.faults now_put.faults ⊎ Rose told.faults now_told.faults
      later (inl r) = inl r
      later (inr r) = inr (omega (arith, r, f.later))
  delivers_stopped Memory s f =
      let four : status ≡ 4 = f.is in
      record {
        is = inr (inr four);
        outs = record { ended = λ h. absurd (omega (arith, four)); stopped = λ h. torn_as never s.files; all_but_told = λ h. absurd (omega (arith, four)) };
        console = record { ended = λ h. absurd (omega (arith, four)); torn = λ h. absurd (omega (arith, four)) };
        fault_told = record { fault_whole = λ h. absurd (omega (arith, four)); memory_whole = λ h q. gains_then (s.no_text (omega (arith, q, s.told_later, f.later))) (f.whole (omega (arith, q, s.told_later, f.later))); memory_torn = λ h. (f.torn.0, gains_then (s.no_text_yet refl) f.torn.1) };
        put_calm = λ h. absurd (omega (arith, four));
        told_calm = λ h. absurd (omega (arith, four));
        memory_calm = λ h. s.memory_calm refl;
        put_later = s.put_later;
        told_later = omega (arith, s.told_later, f.later);
      }
    where
      never : {A B : Type 0} → (Memory ≡ Fault) × A → B
      never p = absurd (cc p.0)
