use Rattle.std.proofs.Common.{◌≡◌, true, Some, ◌∙◌, ap, sym}
use Rattle.std.specs.Str.{is_utf8}
use Rattle.iasl_ports.specs.Fetched.{find_file}
use Rattle.asl_directives.proofs.Texts.{tests_utf8, tests_other}
use Rattle.asl_preprocess.specs.Search as spec
use Rattle.asl_preprocess.proofs.Fetching.{first_whole, first_large, first_missing, first_other}
use Rattle.asl_preprocess.proofs.search.fetch.Goals as goal

pub returns-in_default-clause-found : goal.returns-in_default-clause-found
returns-in_default-clause-found g c told e rest =
    first_other told c.args.name.now rest (ap is_utf8 (sym c.as_bytes.ensures) ∙ tests_other c.as_bytes.result.now c.in_default.ensures.cases.0)

pub returns-in-Ok-from_bytes-clause-found :
    goal.returns-in-Ok-from_bytes-clause-found
returns-in-Ok-from_bytes-clause-found g c told e rest =
    let text : c.in-Ok.text.now ≡ c.args.name.now = c.in-Ok.ensures.cases.0 ∙ c.as_bytes.ensures in
    let utf8 : is_utf8 c.args.name.now ≡ true = ap is_utf8 (sym c.as_bytes.ensures) ∙ tests_utf8 c.as_bytes.result.now c.in-Ok.ensures.cases.1 in
    let whole : find_file told c.args.name.now ≡ Some c.in-Ok-fetch.bytes.items = ap (find_file told) (sym text) ∙ c.in-Ok-fetch.ensures.whole told e in
    let name : c.in-Ok-from_bytes.name ≡ c.args.name.now = c.in-Ok-from_bytes.ensures ∙ c.as_bytes-in-Ok-fetch.ensures in
    ap (λ n. spec.Whole n c.in-Ok-fetch.bytes.items) name ∙ first_whole told c.args.name.now c.in-Ok-fetch.bytes.items rest utf8 whole c.in-Ok-fetch.ensures.size

pub returns-in-Err-TooLarge-clause-found : goal.returns-in-Err-TooLarge-clause-found
returns-in-Err-TooLarge-clause-found g c told e rest =
    let text : c.in-Ok.text.now ≡ c.args.name.now = c.in-Ok.ensures.cases.0 ∙ c.as_bytes.ensures in
    let utf8 : is_utf8 c.args.name.now ≡ true = ap is_utf8 (sym c.as_bytes.ensures) ∙ tests_utf8 c.as_bytes.result.now c.in-Ok.ensures.cases.1 in
    let refused = (rw c.in-Err-TooLarge.field-0-is at c.in-Err-TooLarge.ensures.refused) told e in
    first_large told c.args.name.now refused.0 rest utf8 (ap (find_file told) (sym text) ∙ refused.1) refused.2

pub returns-in-Err-Absent-clause-found : goal.returns-in-Err-Absent-clause-found
returns-in-Err-Absent-clause-found g c told e rest =
    let text : c.in-Ok.text.now ≡ c.args.name.now = c.in-Ok.ensures.cases.0 ∙ c.as_bytes.ensures in
    let utf8 : is_utf8 c.args.name.now ≡ true = ap is_utf8 (sym c.as_bytes.ensures) ∙ tests_utf8 c.as_bytes.result.now c.in-Ok.ensures.cases.1 in
    first_missing told c.args.name.now rest utf8 (ap (find_file told) (sym text) ∙ (rw c.in-Err-Absent.field-0-is at c.in-Err-Absent.ensures.refused) told e)
