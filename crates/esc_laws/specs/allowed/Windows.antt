-- Shown of the laws, and no law.
-- What the rules of windows allow: a window at the first tick that they let it open at.
use Rattle.std.specs.Prelude.{List, [], ◌∷◌, ◌++◌}
use Rattle.esc_base.specs.declared.event.Event.{Event}
use Rattle.esc_base.specs.declared.note.Note.{Note}
use Rattle.settings_block.specs.declared.stored.Loaded.{Loaded}
use Rattle.esc_laws.specs.Windowed.{WindowRule}
use Rattle.esc_laws.specs.refused.Notes.{enters, leaves, window, nothing, first_two}
use Rattle.esc_laws.specs.refused.Replies.{with_reply, changes_at}

-- the last of these notes, behind the first two, keeps the rules of windows
abbrev pub MayFollow : List Event → List Note → Note → Type 0
MayFollow trace notes n = (loaded : Loaded) → WindowRule loaded trace (first_two ++ notes) n

pub record SomeWindowsOpen : Type 0 where
  -- in an activation that is entered 600 ticks after the F, on a line at rest
  pub after_600_ticks : MayFollow [] (enters 5000 3 ∷ nothing 5006 ∷ leaves 5010 3 ∷ enters 5606 3 ∷ []) (window 5608 0)
  -- and after a reply, in one that is entered at its end
  pub at_the_end_of_a_reply : MayFollow (changes_at 6000) (with_reply 3 ++ (leaves 6208 3 ∷ enters 10128 3 ∷ [])) (window 10130 3)
