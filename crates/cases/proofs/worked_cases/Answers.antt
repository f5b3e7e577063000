use Rattle.std.proofs.Common.{refl}
use Rattle.cases.proofs.worked_cases.Goals as goal

pub returns : goal.returns
returns c =
    record {
      reads_addi = refl;
      reads_mul = refl;
      refuses_its_neighbour = refl;
      writes_the_largest = refl;
      refuses_one_more = refl;
      div_by_0 = refl;
      rem_by_0 = refl;
      div_overflows = refl;
      rem_overflows = refl;
      jumps = refl;
      jumps_askew = refl;
      first = refl;
      second = refl;
      third = refl;
      fourth_traps = refl;
      fourth_cause = refl;
      fourth_mepc = refl;
      interrupted = refl;
      interrupted_next = refl;
      interrupted_mepc = refl;
      interrupted_register = refl;
      empty_traps = refl;
      empty_cause = refl;
      empty_mepc = refl;
      wait_of_1 = refl;
      wait_of_132 = refl;
      wait_of_the_pile = λ u. refl;
    }
