-- How a run ends follows from what it decides and from how that is delivered.
use Rattle.std.specs.Prelude.{◌≡◌, ◌⊎◌, ℕ, ◌≤◌, List, [], map, None, Result, refl}
use Rattle.std.specs.declared.option.Option.{Option}
use Rattle.std.specs.Option.{ForSome}
use Rattle.std.proofs.Common.{inl, inr, sym, ◌∙◌, ap, subst, arith, rules}
use Rattle.iasl_ports.specs.Counts.{Rose, Quiet}
use Rattle.iasl_ports.specs.Gained.{Named, Gains}
use Rattle.iasl_ports.specs.GainedLaws.{gains_none}
use Rattle.iasl_ports.specs.Delivery.{Answer, answer_of, status_of, due_of, name_and_bytes, OutsGained, ConsoleGained, FaultCause}
use Rattle.iasl_ports.specs.declared.delivery.Due.{Due}
use Rattle.iasl_ports.specs.declared.delivery.Stop.{Stop}
use Rattle.iasl_ports.specs.declared.delivery.Stop.TheVariants.{Fault, Memory}
use Rattle.iasl_runs.specs.Ends.{FilesSeen, OutputsSeen, ConsoleSeen, world, Decides, Ends, Delivers, Finishes}

-- a status that is due, or 3 for a reason, or 4
low : {A : Type 0} (status due : ℕ) → status ≤ 2 → (status ≡ due) ⊎ (((status ≡ 3) × A) ⊎ (status ≡ 4)) → status ≡ due
low status due h (inl e) = e
low status due h (inr (inl r)) = let three : status ≡ 3 = r.0 in absurd (omega (arith, three))
low status due h (inr (inr e)) = absurd (omega (arith, e))

in_range : {A : Type 0} (status due : ℕ) → due ≤ 2 → (status ≡ due) ⊎ (((status ≡ 3) × A) ⊎ (status ≡ 4)) → status ≤ 4
in_range status due h (inl e) = omega (arith, e)
in_range status due h (inr (inl r)) = let three : status ≡ 3 = r.0 in omega (arith, three)
in_range status due h (inr (inr e)) = omega (arith, e)

reason : {A : Type 0} (status due : ℕ) → due ≤ 2 → status ≡ 3 → (status ≡ due) ⊎ (((status ≡ 3) × A) ⊎ (status ≡ 4)) → A
reason status due h three (inl e) = absurd (omega (arith, e))
reason status due h three (inr (inl r)) = r.1
reason status due h three (inr (inr e)) = absurd (omega (arith, e))

unless_stopped : {A : Type 0} (status due : ℕ) → (A → ⊥) → (status ≡ due) ⊎ (((status ≡ 3) × A) ⊎ (status ≡ 4)) → (status ≡ due)
    ⊎ (status ≡ 4)
unless_stopped status due never (inl e) = inl e
unless_stopped status due never (inr (inl r)) = absurd (never r.1)
unless_stopped status due never (inr (inr e)) = inr e

not_both : (before now : ℕ) → Rose before now → Quiet before now → ⊥
not_both before now rose quiet = omega (arith, rose, quiet)

neither : {A B : Type 0} → (A → ⊥) → (B → ⊥) → A ⊎ B → ⊥
neither na nb (inl a) = na a
neither na nb (inr b) = nb b

caused : {read put told absent : Type 0} → put ⊎ told → FaultCause read put told absent
caused (inl p) = inr (inl p)
caused (inr t) = inr (inr (inl t))

found : {read put told absent : Type 0} → read ⊎ absent → FaultCause read put told absent
found (inl r) = inl r
found (inr a) = inr (inr (inr a))

nothing_put : {answer : Option Answer} {status : ℕ} {rose calm : Type 0} (put : Option (List Named)) → 3 ≤ status →
    (status ≡ 3 → calm → Gains put put (due_of answer)) → OutsGained answer status rose calm put put
nothing_put put h all = record {
  ended = λ low. absurd (omega (arith, h));
  stopped = λ high. record { whole = 0; part = []; gained = gains_none put; next = inl refl };
  all_but_told = all;
}

module _ (answer : List Named → Option Answer) (fault memory : List ℕ) (status : ℕ) (files now_files : FilesSeen)
    (put now_put : OutputsSeen) (told now_told : ConsoleSeen) where
  -- a run that has decided
  ends_due : (due : Due) → Decides answer (Result.Ok due) files now_files → Delivers fault memory due status put now_put told now_told
      → Ends answer fault memory status (world files put told) (world now_files now_put now_told)
  ends_due due d e =
      let small : due.status ≤ 2 = d.settled.range in
      record {
        range = in_range status due.status small e.is;
        contents = d.contents;
        read_later = d.later;
        put_later = e.put_later;
        told_later = e.told_later;
        quiet = λ all is q.
            let end : (status ≡ due.status) ⊎ (status ≡ 4) = unless_stopped status due.status
            (neither (λ r. not_both put.faults now_put.faults r q.outputs) (λ r. not_both told.faults now_told.faults r q.console))
            e.is in
            subst (λ n. (status ≡ n) ⊎ (status ≡ 4)) (sym (ap status_of (d.due all is))) end;
        settled = λ h all is. ap status_of (d.due all is) ∙ sym (low status due.status h e.is);
        read_calm = λ h. d.calm;
        put_calm = e.put_calm;
        told_calm = e.told_calm;
        memory_read_calm = λ h. d.calm;
        memory_put_calm = e.memory_calm;
        cause = λ h. caused (reason status due.status small h e.is);
        no_files = λ some h.
            let same : status ≡ due.status = low status due.status h e.is in
            let none : due.files.items ≡ [] = d.settled.files (omega (arith, some, same)) in
            subst (λ files. Gains put.written now_put.written (map name_and_bytes files)) none (e.outs.ended h);
        outs = λ all is.
            let gained : OutsGained (Option.Some (answer_of due)) status (Rose put.faults now_put.faults)
            (Quiet files.faults now_files.faults × Quiet put.faults now_put.faults) put.written now_put.written =
            record { ended = e.outs.ended; stopped = e.outs.stopped; all_but_told = λ h q. e.outs.all_but_told h q.1 } in
            subst
            (λ a. OutsGained a status (Rose put.faults now_put.faults)
            (Quiet files.faults now_files.faults × Quiet put.faults now_put.faults) put.written now_put.written) (sym (d.due all is))
            gained;
        console = λ all is. subst (λ a. ConsoleGained fault a status told.told now_told.told) (sym (d.due all is)) e.console;
        fault_told = e.fault_told;
      }

  -- a run that stops with a fault although no fetch failed, since its file is absent
  no_answer : Decides answer (Result.Err Fault) files now_files → Quiet files.faults now_files.faults →
      ForSome files.contents (λ all. answer all ≡ None)
  no_answer d q = absent (d.fault (search rules))
    where
      absent : Rose files.faults now_files.faults
          ⊎ (Rose files.absents now_files.absents × ForSome files.contents (λ all. answer all ≡ None)) →
          ForSome files.contents (λ all. answer all ≡ None)
      absent (inl rose) = absurd (not_both files.faults now_files.faults rose q)
      absent (inr a) = a.1

  pub ends : (decided : Result Due Stop) → Decides answer decided files now_files → Finishes fault memory decided status put now_put told
      now_told
      → Ends answer fault memory status (world files put told) (world now_files now_put now_told)
  ends (Result.Ok due) d e = ends_due due d e
  ends (Result.Err Fault) d e =
      let three : status ≡ 3 = e.1.is in
      let same : now_put ≡ put = e.0 in
      record {
        range = omega (arith, three);
        contents = d.contents;
        read_later = d.later;
        put_later = subst (λ o. put.faults ≤ o.faults) (sym same) (omega arith);
        told_later = e.1.later;
        quiet = λ all is q. inl (subst (λ a. status ≡ status_of a) (sym (no_answer d q.files all is)) three);
        settled = λ h. absurd (omega (arith, three));
        read_calm = λ h. absurd (omega (arith, three));
        put_calm = λ h. ap (λ o. o.faults) same;
        told_calm = λ h. absurd (omega (arith, three));
        memory_read_calm = λ h. absurd (omega (arith, three));
        memory_put_calm = λ h. absurd (omega (arith, three));
        cause = λ h. found (d.fault (search rules));
        no_files = λ some h. absurd (omega (arith, three));
        outs =
            λ all is. subst
            (λ o. OutsGained (answer all) status (Rose put.faults o.faults)
            (Quiet files.faults now_files.faults × Quiet put.faults o.faults) put.written o.written) (sym same)
            (nothing_put put.written (omega (arith, three))
            (λ h q. subst (λ a. Gains put.written put.written (due_of a)) (sym (no_answer d q.0 all is)) (gains_none put.written)));
        console = λ all is. record { ended = λ h. absurd (omega (arith, three)); torn = λ h. (0, e.1.torn.0, e.1.torn.1) };
        fault_told = record {
          fault_whole = λ h q. e.1.whole q;
          memory_whole = λ h. absurd (omega (arith, three));
          memory_torn =
              λ h. absurd (omega (arith, three));
        };
      }
  ends (Result.Err Memory) d e =
      let four : status ≡ 4 = e.1.is in
      let same : now_put ≡ put = e.0 in
      record {
        range = omega (arith, four);
        contents = d.contents;
        read_later = d.later;
        put_later = subst (λ o. put.faults ≤ o.faults) (sym same) (omega arith);
        told_later = e.1.later;
        quiet = λ all is q. inr four;
        settled = λ h. absurd (omega (arith, four));
        read_calm = λ h. absurd (omega (arith, four));
        put_calm = λ h. ap (λ o. o.faults) same;
        told_calm = λ h. absurd (omega (arith, four));
        memory_read_calm = λ h. d.memory_calm (search rules);
        memory_put_calm = λ h. ap (λ o. o.faults) same;
        cause = λ h. absurd (omega (arith, four));
        no_files = λ some h. absurd (omega (arith, four));
        outs =
            λ all is. subst
            (λ o. OutsGained (answer all) status (Rose put.faults o.faults)
            (Quiet files.faults now_files.faults × Quiet put.faults o.faults) put.written o.written) (sym same)
            (nothing_put put.written (omega (arith, four)) (λ h. absurd (omega (arith, four))));
        console = λ all is. record { ended = λ h. absurd (omega (arith, four)); torn = λ h. absurd (omega (arith, four)) };
        fault_told = record {
          fault_whole = λ h. absurd (omega (arith, four));
          memory_whole = λ h q. e.1.whole q;
          memory_torn =
              λ h. e.1.torn;
        };
      }
