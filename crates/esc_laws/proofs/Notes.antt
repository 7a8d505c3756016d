-- The journal after one more note.
use Rattle.std.proofs.Common.{◌≡◌, ◌≤◌, ℕ, List, [], ◌∷◌, ◌++◌, reverse, arith, All}
use Rattle.std.proofs.lemmas.List.Elements.{All-nil, All-cons, All-head, All-tail, All-push}
use Rattle.esc_base.specs.declared.event.Event.{Event}
use Rattle.esc_base.specs.declared.note.Note.{Note}
use Rattle.esc_base.specs.Journal.{Each, IsLater, time_of}
use Rattle.settings_block.specs.declared.stored.Loaded.{Loaded}
use Rattle.interrupt_machine.specs.declared.nest.Nest.{Nest}
use Rattle.arming.proofs.InOrder.{each_push}
use Rattle.esc_laws.specs.Place.{place}
use Rattle.esc_laws.specs.NoteLaw.{IsLawful, Lawful}
use Rattle.esc_laws.specs.Said.{NoteFits, Said}
use Rattle.esc_laws.specs.Steps.{opening}

at_end : (t u : ℕ) (xs : List Note) → t ≡ u → All (λ n. time_of n ≤ u) xs → All (λ n. time_of n ≤ t) xs
at_end t u xs e a = λ k d l. rw e (a k d l)

-- one more note at t
pub said_push : (loaded : Loaded) (nest : Nest) (trace : List Event) (t : ℕ) (rest : List Note) (n : Note) → Said loaded nest trace t rest → time_of n ≡ t
    → NoteFits loaded nest trace (opening loaded ++ rest) n → Said loaded nest trace t (rest ++ n ∷ [])
said_push loaded nest trace t rest n s at f = record {
  in_time = each_push IsLater [] (opening loaded ++ rest) n s.in_time (at_end (time_of n) t (opening loaded ++ rest) at s.past);
  keeps = each_push (NoteFits loaded nest trace) (opening loaded) rest n s.keeps f;
  past = All-push (λ x. time_of x ≤ t) (opening loaded ++ rest) n s.past (rw at (omega arith));
}

pub each_map : (P Q : List Note → Note → Type 0) → ((before : List Note) (n : Note) → P before n → Q before n) → (before notes : List Note)
    → Each P before notes → Each Q before notes
each_map P Q f before [] each = tt
each_map P Q f before (n ∷ notes) each = (f before n each.0, each_map P Q f (before ++ n ∷ []) notes each.1)

-- the laws alone
pub lawful_of : (loaded : Loaded) (nest : Nest) (trace : List Event) (rest : List Note) → Each (NoteFits loaded nest trace) (opening loaded) rest
    → Lawful loaded nest trace rest
lawful_of loaded nest trace rest each =
    each_map (NoteFits loaded nest trace) (λ before n. IsLawful loaded nest trace (place before) (reverse before) n) (λ before n k. k.laws) (opening loaded)
    rest each

-- a fact of all notes is one of a front of them
pub all_front : (P : Note → Type 0) (front left_out : List Note) → All P (front ++ left_out) → All P front
all_front P [] left_out a = All-nil P
all_front P (n ∷ front) left_out a = All-cons P n front (All-head P n (front ++ left_out) a) (all_front P front left_out (All-tail P n (front ++ left_out) a))
