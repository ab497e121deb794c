-- `chunks::putting::put_at` meets its contract: the outline, and the three words of its entry. Assumes nothing.
use Rattle.chunks.proofs.Laid.{word_put}
use Rattle.chunks.proofs.Placed.{outlined}
use Rattle.chunks.proofs.putting.put_at.Goals as goal

pub returns : goal.returns
returns c = outlined _ _ _ _ _ c.copy_bytes.ensures (word_put _ c.place_word.ensures) (word_put _ c.place_word-2.ensures) (word_put _ c.place_word-3.ensures)
