-- Later events change nothing of the laws that the notes before them keep.
use Rattle.std.proofs.Common.{◌<◌, List, [], ◌∷◌, ◌++◌, reverse, arith, All}
use Rattle.std.proofs.lemmas.List.Elements.{All-head, All-tail}
use Rattle.esc_base.specs.declared.event.Event.{Event}
use Rattle.esc_base.specs.declared.note.Note.{Note}
use Rattle.esc_base.specs.Journal.{Each, time_of}
use Rattle.esc_base.specs.Trace.{tick_of}
use Rattle.settings_block.specs.declared.stored.Loaded.{Loaded}
use Rattle.interrupt_machine.specs.declared.nest.Nest.{Nest}
use Rattle.arming.proofs.InOrder.{reverse-push}
use Rattle.esc_laws.specs.Place.{place}
use Rattle.esc_laws.specs.Saves.{forward_at}
use Rattle.esc_laws.specs.Searched.{sight_at}
use Rattle.esc_laws.specs.NoteLaw as law
use Rattle.esc_laws.specs.NoteLaw.{NoteLaw, rule, IsLawful}
use Rattle.esc_laws.specs.Said.{NoteFits}
use Rattle.esc_laws.specs.Steps.{opening}
use Rattle.esc_laws.proofs.Pushes.{place-push}
use Rattle.esc_laws.proofs.Opening.{place-opening}
use Rattle.esc_laws.proofs.Growth.{window_grows, ask_grows}
use Rattle.esc_laws.proofs.ReplyGrowth.{Settled, settled_next, reply_grows}
use Rattle.esc_laws.proofs.CrossGrowth.{EntersBelow, sight_below, cross_rule_grows, search_rule_grows}

-- what the laws that read the trace need of the notes before
record Settles (trace : List Event) (e : Event) (before : List Note) : Type 0 where
  signal : Settled trace (tick_of e) (place before).signal
  sight : EntersBelow (tick_of e) (sight_at (reverse before))

settles_next : (loaded : Loaded) (nest : Nest) (trace : List Event) (e : Event) (before : List Note) (n : Note) → time_of n < tick_of e
    → IsLawful loaded nest trace (place before) (reverse before) n → Settles trace e before → Settles trace e (before ++ n ∷ [])
settles_next loaded nest trace e before n lt laws s = record {
  signal = rw (place-push before n) (settled_next loaded trace (tick_of e) (place before) (reverse before) n (omega arith) (laws law.Windows) s.signal);
  sight = rw (reverse-push before n) (sight_below n (reverse before) (tick_of e) lt s.sight);
}

-- a row for each law that reads the trace
rule_grows : (l : NoteLaw) (loaded : Loaded) (nest : Nest) (trace : List Event) (e : Event) (before : List Note) (n : Note) → time_of n < tick_of e
    → Settles trace e before → rule l loaded nest trace (place before) (reverse before) n
    → rule l loaded nest (trace ++ e ∷ []) (place before) (reverse before) n
rule_grows law.Windows loaded nest trace e before n lt s r = window_grows loaded trace e before n (omega arith) r
rule_grows law.Replies loaded nest trace e before n lt s r = reply_grows trace e before n s.signal r
rule_grows law.Crosses loaded nest trace e before n lt s r = cross_rule_grows trace e (forward_at loaded.settings) (reverse before) n lt r
rule_grows law.Searches loaded nest trace e before n lt s r = search_rule_grows trace e (forward_at loaded.settings) (reverse before) n lt s.sight r
rule_grows law.Asks loaded nest trace e before n lt s r = ask_grows loaded trace e before n lt r
rule_grows l loaded nest trace e before n lt s r = r

keeps_from : (loaded : Loaded) (nest : Nest) (trace : List Event) (e : Event) (before notes : List Note) → All (λ n. time_of n < tick_of e) notes
    → Settles trace e before → Each (NoteFits loaded nest trace) before notes → Each (NoteFits loaded nest (trace ++ e ∷ [])) before notes
keeps_from loaded nest trace e before [] below s each = tt
keeps_from loaded nest trace e before (n ∷ notes) below s each =
    let lt : time_of n < tick_of e = All-head (λ x. time_of x < tick_of e) n notes below in (
      record { laws = λ l. rule_grows l loaded nest trace e before n lt s (each.0.laws l); waits = each.0.waits },
      keeps_from loaded nest trace e (before ++ n ∷ []) notes (All-tail (λ x. time_of x < tick_of e) n notes below)
          (settles_next loaded nest trace e before n lt each.0.laws s) each.1,
    )

settles_start : (loaded : Loaded) (trace : List Event) (e : Event) → Settles trace e (opening loaded)
settles_start loaded trace e = record { signal = rw (place-opening loaded) tt; sight = tt }

pub keeps_grow : (loaded : Loaded) (nest : Nest) (trace : List Event) (e : Event) (rest : List Note) → All (λ n. time_of n < tick_of e) rest
    → Each (NoteFits loaded nest trace) (opening loaded) rest → Each (NoteFits loaded nest (trace ++ e ∷ [])) (opening loaded) rest
keeps_grow loaded nest trace e rest below each = keeps_from loaded nest trace e (opening loaded) rest below (settles_start loaded trace e) each
