-- What holds where the script was followed to its end holds of any other ending.
use Rattle.am32trace.specs.declared.status.Status.{Status}
use Rattle.am32trace.specs.declared.status.Status.TheVariants as status
use Rattle.am32trace.specs.Status.{OnDone, IsUnfinished}

pub unfinished : (s : Status) (P : Type 0) → IsUnfinished s → OnDone s P
unfinished status.Done P h = absurd h
unfinished (status.Refused line expected) P h = tt
unfinished status.Usage P h = tt
unfinished status.ReadFault P h = tt
unfinished status.WriteFault P h = tt
unfinished status.NoMemory P h = tt

pub where_done : (s : Status) (P Q : Type 0) → (P → Q) → OnDone s P → OnDone s Q
where_done status.Done P Q f h = f h
where_done (status.Refused line expected) P Q f h = tt
where_done status.Usage P Q f h = tt
where_done status.ReadFault P Q f h = tt
where_done status.WriteFault P Q f h = tt
where_done status.NoMemory P Q f h = tt
