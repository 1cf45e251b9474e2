-- What a phase frees it should free, and no protected object should be.
use Rattle.std.proofs.Common.{refl}
use Rattle.mm_model.specs.Logs.Turns.{Reaping, Collecting, Finishing}
use Rattle.mm_laws.proofs.Turning.Promises.{spares-phase}
use Rattle.mm_laws.proofs.reachability.phases_spare_protected.Goals as goal

pub returns : goal.returns
returns c =
    record {
      reap = λ a bases good are.
          spares-phase a (record { way = Reaping; before = a; bases = bases })
          (record { good = good; are = are; finishing = λ e. cc });
      collection = λ a bases good are.
          spares-phase a (record { way = Collecting; before = a; bases = bases })
          (record { good = good; are = are; finishing = λ e. cc });
      finish = λ a bases good runs are.
          spares-phase a (record { way = Finishing; before = a; bases = bases })
          (record { good = good; are = are; finishing = λ e. (refl, runs) });
    }
