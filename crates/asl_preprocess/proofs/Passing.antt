-- The rows of a file one after another.
use Rattle.std.proofs.Common.{◌≡◌, ℕ, ◌<◌, Bool, List, [], ◌∷◌, length, Option, Some, Result, Ok, Err, ap, sym, ◌∙◌, arith}
use Rattle.std.specs.Option.{ForSome}
use Rattle.std.specs.Result.{IfErr}
use Rattle.iasl_ports.specs.Gained.{Named}
use Rattle.asl_directives.specs.declared.branches.Branch.{Branch}
use Rattle.asl_preprocess.specs.declared.work.Work.{Work}
use Rattle.asl_preprocess.specs.declared.stop.ReadingStop.{ReadingStop}
use Rattle.asl_preprocess.specs.declared.stop.ReadingStop.TheVariants.{At, ReadFault, Memory}
use Rattle.asl_preprocess.specs.Rows.{Row, rows_of}
use Rattle.asl_preprocess.specs.State.{State, Pass, Outcome, then, number_of}
use Rattle.asl_preprocess.specs.Preprocess.{setting_of, reading_at, of_row, done, of_rows, at_end, of_file}
use Rattle.asl_preprocess.specs.Told.{Shows}
use Rattle.asl_preprocess.specs.Sound.{IsSound}
use Rattle.asl_preprocess.specs.Reached.{Stands, StandsIn, StopsAt, Reaches, EndsFile, Counts}

abbrev pub first_pass : State → Pass
first_pass state = record { state = state; branches = [] }

module _ (directories : List (List ℕ)) (enabled : Bool) (levels file : ℕ) (own : List ℕ) where
  -- what the rows come to that are left
  abbrev pub left_of : List Named → List Row → Pass → Outcome Pass
  left_of told rows pass = of_rows (reading_at (setting_of told directories enabled) levels) (setting_of told directories enabled) file own rows pass

  -- what a row comes to
  abbrev pub one_of : List Named → Row → Pass → Outcome Pass
  one_of told row pass = then (of_row enabled file row pass) (done (reading_at (setting_of told directories enabled) levels) (setting_of told directories enabled) own)

-- some rows have passed, and these are left
pub record Passed (contents : Option (List Named)) (directories : List (List ℕ)) (enabled : Bool) (levels file : ℕ) (own : List ℕ) (work : Work) (branches : List Branch) (state : State) (all left : List Row) : Type 0 where
  pub now : Pass
  pub stands_in : StandsIn work branches now (length state.files)
  pub same : ForSome contents (λ told. left_of directories enabled levels file own told all (first_pass state) ≡ left_of directories enabled levels file own told left now)

module _ (contents : Option (List Named)) (directories : List (List ℕ)) (enabled : Bool) (levels file : ℕ) (own : List ℕ) where
  pub passed_none : (work : Work) (branches : List Branch) (state : State) (all left : List Row) → branches ≡ [] → Shows work state → IsSound state → left ≡ all → Passed contents directories enabled levels file own work branches state all left
  passed_none work branches state all left none shows sound e = record {
    now = first_pass state;
    stands_in = record { stands = record { shows = shows; sound = sound; grows = omega arith }; branches_are = none };
    same = λ told h. ap (λ rows. left_of directories enabled levels file own told rows (first_pass state)) (sym e);
  }

  module _ {work : Work} {branches : List Branch} {state : State} {all left : List Row} (p : Passed contents directories enabled levels file own work branches state all left) (row : Row) (rest : List Row) (e : left ≡ row ∷ rest) where
    -- what the code's row comes to in the pass that it has
    abbrev pub here : Pass
    here = record { state = p.now.state; branches = branches }

    -- the rows that are left, by the first of them
    left_by : (told : List Named) → contents ≡ Some told → left_of directories enabled levels file own told all (first_pass state)
        ≡ then (one_of directories enabled levels file own told row here) (left_of directories enabled levels file own told rest)
    left_by told h =
        p.same told h ∙ ap (λ rows. left_of directories enabled levels file own told rows p.now) e
        ∙ ap (λ (b : List Branch). then (one_of directories enabled levels file own told row (record { state = p.now.state; branches = b })) (left_of directories enabled levels file own told rest)) (sym p.stands_in.branches_are)

    pub passed_more : {work' : Work} {branches' : List Branch} (later : Pass) → StandsIn work' branches' later (length p.now.state.files)
        → ForSome contents (λ told. one_of directories enabled levels file own told row here ≡ Ok later)
        → Passed contents directories enabled levels file own work' branches' state all rest
    passed_more {work'} {branches'} later stands is = record {
      now = later;
      stands_in = record {
        stands = record { shows = stands.stands.shows; sound = stands.stands.sound; grows = omega (arith, stands.stands.grows, p.stands_in.stands.grows) };
        branches_are = stands.branches_are;
      };
      same = λ told h. left_by told h ∙ ap (λ o. then o (left_of directories enabled levels file own told rest)) (is told h);
    }

    pub passed_stops : (stop : ReadingStop) (files : List (List ℕ)) (bytes : List ℕ) → all ≡ rows_of enabled bytes → file ≡ number_of own state.files
        → StopsAt stop contents files (λ told. one_of directories enabled levels file own told row here)
        → StopsAt stop contents files (λ told. of_file (setting_of told directories enabled) levels state own bytes)
    passed_stops (At message) files bytes a f stops = (
      stops.0,
      λ told h.
          let k : ℕ → Outcome Pass → Outcome State = λ n o. then o (at_end n) in
          ap (λ n. then (of_rows (reading_at (setting_of told directories enabled) levels) (setting_of told directories enabled) n own (rows_of enabled bytes) (first_pass state)) (at_end n)) (sym f)
          ∙ ap (λ rows. then (left_of directories enabled levels file own told rows (first_pass state)) (at_end file)) (sym a)
          ∙ ap (λ o. then o (at_end file)) (left_by told h ∙ ap (λ o. then o (left_of directories enabled levels file own told rest)) (stops.1 told h)),
    )
    passed_stops ReadFault files bytes a f stops = stops
    passed_stops Memory files bytes a f stops = stops

  -- the end of the rows
  pub passed_all : {work : Work} {branches : List Branch} {state : State} {all left : List Row} (p : Passed contents directories enabled levels file own work branches state all left) (bytes : List ℕ) → left ≡ [] → all ≡ rows_of enabled bytes → file ≡ number_of own state.files
      → (told : List Named) → contents ≡ Some told → of_file (setting_of told directories enabled) levels state own bytes ≡ at_end file (record { state = p.now.state; branches = branches })
  passed_all {work} {branches} {state} p bytes e a f told h =
      ap (λ n. then (of_rows (reading_at (setting_of told directories enabled) levels) (setting_of told directories enabled) n own (rows_of enabled bytes) (first_pass state)) (at_end n)) (sym f)
      ∙ ap (λ rows. then (left_of directories enabled levels file own told rows (first_pass state)) (at_end file)) (sym a)
      ∙ ap (λ o. then o (at_end file)) (p.same told h ∙ ap (λ rows. left_of directories enabled levels file own told rows p.now) e)
      ∙ ap (λ (b : List Branch). at_end file (record { state = p.now.state; branches = b })) (sym p.stands_in.branches_are)

  pub passed_end : {work : Work} {branches : List Branch} {state : State} {all left : List Row} (p : Passed contents directories enabled levels file own work branches state all left) (bytes : List ℕ) → left ≡ [] → all ≡ rows_of enabled bytes → file ≡ number_of own state.files → file < length state.files
      → (result : Result (Unit {0}) ReadingStop) (files : List (List ℕ)) → work.files ≡ files → EndsFile result file (at_end file (record { state = p.now.state; branches = branches })) p.now.state
      → Reaches result contents files (λ later. Stands work later (length state.files)) (λ told. of_file (setting_of told directories enabled) levels state own bytes)
  passed_end p bytes e a f known (Ok u) files w ends = (p.now.state, p.stands_in.stands, λ told h. passed_all p bytes e a f told h ∙ ends)
  passed_end {work} {branches} {state} p bytes e a f known (Err (At message)) files w ends =
      let same : p.now.state.files ≡ files = sym p.stands_in.stands.shows.files ∙ w in
      (omega (arith, ends.1, p.stands_in.stands.grows, ap length same), λ told h. passed_all p bytes e a f told h ∙ ends.0 ∙ ap (λ names. Err (message, names)) same)
  passed_end p bytes e a f known (Err ReadFault) files w ends = tt
  passed_end p bytes e a f known (Err Memory) files w ends = tt

-- the count of faults stays where rows end
pub end_counts : (r : Result (Unit {0}) ReadingStop) (file : ℕ) (outcome : Outcome State) (state : State) (before now : ℕ) → now ≡ before → EndsFile r file outcome state → IfErr r (λ stop. Counts stop before now)
end_counts (Ok u) file outcome state before now e h = tt
end_counts (Err (At message)) file outcome state before now e h = e
end_counts (Err ReadFault) file outcome state before now e h = absurd h.0
end_counts (Err Memory) file outcome state before now e h = e
