use Rattle.std.proofs.Common.{◌∷◌, [], List, ℕ, take, subst}
use Rattle.asl_preprocess.specs.State.{blank}
use Rattle.asl_preprocess.specs.Told.{Shows}
use Rattle.asl_preprocess.proofs.Starts.{shows_more}
use Rattle.asl_preprocess.specs.Preprocess as spec
use Rattle.asl_preprocess.proofs.main_file.begin.Goals as goal

pub loop-define-init : goal.loop-define-init
loop-define-init c = λ shows.
    let P : List ℕ → Type 0 = λ n. Shows c.define.new.self (record { history = spec.first_history []; lines = []; notes = []; files = n ∷ [] }) in
    subst P c.as_bytes.ensures.value (c.in_ok-define.ensures (record { history = []; lines = []; notes = []; files = c.as_bytes.result.now ∷ [] }) (c.in_ok-add_file.ensures.shows blank shows))

pub loop-define-preserved : goal.loop-define-preserved
loop-define-preserved c = λ shows.
    let items = c.as_slice-define-items.result.now in
    let i = c.loop-define.define-index in
    shows_more c.define-in-loop-define.new.self c.args.name.now items i c.define-item.result c.as_bytes-in-loop-define.result.now c.as_bytes-in-loop-define-2.result.now
    c.loop-define-test.true c.define-item.is c.as_bytes-in-loop-define.ensures c.as_bytes-in-loop-define-2.ensures
    (c.in_ok-define-2.ensures (spec.first_state c.args.name.now (take i items)) (c.loop-define.invariant shows))
