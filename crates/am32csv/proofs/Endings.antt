-- What holds where the capture was read to its end holds of any other ending.
use Rattle.am32csv.specs.declared.status.Status.{Status}
use Rattle.am32csv.specs.declared.status.Status.TheVariants as status
use Rattle.am32csv.specs.Status.{OnDone, IsUnfinished}

pub unfinished : (s : Status) (P : Type 0) → IsUnfinished s → OnDone s P
unfinished status.Done P h = absurd h
unfinished (status.Refused row expected) P h = tt
unfinished status.Usage P h = tt
unfinished status.ReadFault P h = tt
unfinished status.WriteFault P h = tt
unfinished status.NoMemory P h = tt

pub done_too : (s : Status) (P Q : Type 0) → OnDone s P → (P → Q) → OnDone s Q
done_too status.Done P Q h f = f h
done_too (status.Refused row expected) P Q h f = tt
done_too status.Usage P Q h f = tt
done_too status.ReadFault P Q h f = tt
done_too status.WriteFault P Q h f = tt
done_too status.NoMemory P Q h f = tt
