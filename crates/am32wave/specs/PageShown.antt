-- A page that was written whole.
use Rattle.std.specs.Prelude.{◌≡◌, ℕ, false, List, ◌++◌, All, Option}
use Rattle.std.specs.Io.KnownBytes.{append_known, IsAtEnd}
use Rattle.esc_base.specs.declared.note.Note.{Note}
use Rattle.esc_base.specs.Range.{InRange}
use Rattle.am32wave.specs.declared.view.Stretch.{Stretch}
use Rattle.am32wave.specs.Laws.{NoMarkup, page_data}
use Rattle.am32wave.specs.Page.{page_head, page_end}
use Rattle.am32wave.specs.Reading.{HasRead}
use Rattle.am32wave.specs.Shown.{moments_of}
use Rattle.am32wave.specs.Stretch.{whole}

-- The whole journal was read. The page's data has no markup, and of the whole run it tells the notes: no others have it.
pub record WrotePage (s : Stretch) (left before after : Option (List ℕ)) : Type 0 where
  pub notes : List Note
  pub behind : Option (List ℕ)
  pub read : HasRead left behind notes
  pub ended : IsAtEnd behind
  pub wrote : after ≡ append_known before (page_head ++ page_data s false (moments_of notes) ++ page_end)
  pub no_markup : NoMarkup (page_data s false (moments_of notes))
  pub tells : s ≡ whole → (others : List Note) → All InRange others
      → page_data whole false (moments_of others) ≡ page_data whole false (moments_of notes) → others ≡ notes
