-- The premises of the laws hold of a For.
use Rattle.std.proofs.Common.{◌≡◌, [], refl, arith}
use Rattle.acpi_names.specs.Errors.{name_errors, type_errors}
use Rattle.aml_sessions.specs.Ready.{AreItems}
use Rattle.named_sessions.specs.Shaped.{AreFormed}
use Rattle.hidden_locals.specs.Switches.{HaveLocals}
use Rattle.form_shapes.specs.Near.{AreNear}
use Rattle.form_shapes.specs.Rows.{counting}

pub counting_formed : AreFormed (Unit {0}) (AreItems 0) (Unit {0}) (Unit {0}) counting
counting_formed = (
  (
    record { segments = (refl, tt); count = omega arith; rooted = λ e. refl },
    omega arith,
    (
      (
        tt,
        (refl, (tt, omega arith, refl, tt)),
        refl,
        (tt, tt, ((refl, omega arith), ((refl, tt), tt))),
        (refl, (tt, tt, (omega arith, tt))),
        ((tt, refl, omega arith, (tt, (tt, tt, tt), tt)), tt, ((tt, tt, (refl, (refl, tt)), (refl, omega arith, tt), refl), tt, tt)),
      ),
      tt,
      tt,
    ),
  ),
  tt,
  tt,
)

pub counting_near : AreNear counting
counting_near = (((refl, (((tt, tt), tt), (tt, tt))), tt), tt)

pub counting_names : name_errors counting ≡ []
counting_names = refl

pub counting_types : type_errors counting ≡ []
counting_types = refl

pub counting_has_locals : HaveLocals counting
counting_has_locals = (omega arith, ((omega arith, ((((tt, tt), tt), (tt, tt)), tt)), tt))
