-- `heading::heads::head_rows` meets its contract: each return is the outcome of a row, in the order of the rows. Assumes nothing.
use Rattle.heading.specs.Heads.{head_rows, RowsSay}
use Rattle.heading.proofs.Handed.{handed}
use Rattle.heading.proofs.HeadRows.{bytes_of, form_words, length_is, passed, row_holds, row_fails}
use Rattle.heading.proofs.heads.head_rows.Goals as goal

pub returns-in_err-edition : goal.returns-in_err-edition
unfolding head_rows
returns-in_err-edition c = handed (RowsSay _ _) c.from_residual.ensures.1 (row_holds c.in_err-edition.ensures)

pub returns-in_err-kind : goal.returns-in_err-kind
unfolding head_rows
returns-in_err-kind c = handed (RowsSay _ _) c.from_residual-in_err-kind.ensures.1 (row_fails c.in_ok-edition.ensures.0 (row_holds c.in_err-kind.ensures))

pub returns-in_err-fits_kind : goal.returns-in_err-fits_kind
unfolding head_rows
returns-in_err-fits_kind c = handed (RowsSay _ _) c.from_residual-in_err-fits_kind.ensures.1 (row_fails c.in_ok-edition.ensures.0 (row_fails c.in_ok-kind.ensures.0 (row_holds c.in_err-fits_kind.ensures)))

pub returns-in_err-grade : goal.returns-in_err-grade
unfolding head_rows
returns-in_err-grade c = handed (RowsSay _ _) c.from_residual-in_err-grade.ensures.1 (row_fails c.in_ok-edition.ensures.0 (row_fails c.in_ok-kind.ensures.0 (row_fails c.in_ok-fits_kind.ensures.0 (row_holds c.in_err-grade.ensures))))

pub returns-in_err-form : goal.returns-in_err-form
unfolding head_rows
returns-in_err-form c = handed (RowsSay _ _) c.from_residual-in_err-form.ensures.1 (row_fails c.in_ok-edition.ensures.0 (row_fails c.in_ok-kind.ensures.0 (row_fails c.in_ok-fits_kind.ensures.0 (row_fails c.in_ok-grade.ensures.0 (row_holds c.in_err-form.ensures)))))

pub returns-in_err-n : goal.returns-in_err-n
unfolding head_rows
returns-in_err-n c = handed (RowsSay _ _) c.from_residual-in_err-n.ensures.1 (row_fails c.in_ok-edition.ensures.0 (row_fails c.in_ok-kind.ensures.0 (row_fails c.in_ok-fits_kind.ensures.0 (row_fails c.in_ok-grade.ensures.0 (row_fails c.in_ok-form.ensures.0 (row_holds c.in_err-n.ensures))))))

pub fits_length-requires : goal.fits_length-requires
fits_length-requires c = length_is _ c.in_ok-form.ensures.1.0 c.in_ok-n.ensures.1.0 c.in_ok-n.ensures.1.1 c.word_at-m.ensures c.word_at-m.type_inv

pub returns-in_err-fits_length : goal.returns-in_err-fits_length
unfolding head_rows
returns-in_err-fits_length c = handed (RowsSay _ _) c.from_residual-in_err-fits_length.ensures.1 (row_fails c.in_ok-edition.ensures.0 (row_fails c.in_ok-kind.ensures.0 (row_fails c.in_ok-fits_kind.ensures.0 (row_fails c.in_ok-grade.ensures.0 (row_fails c.in_ok-form.ensures.0 (row_fails c.in_ok-n.ensures.0 (row_holds c.in_err-fits_length.ensures)))))))

pub returns : goal.returns
unfolding head_rows
returns c =
    let words = form_words c.in_ok-fits_kind.ensures.1 in
    row_fails c.in_ok-edition.ensures.0 (row_fails c.in_ok-kind.ensures.0 (row_fails c.in_ok-fits_kind.ensures.0 (row_fails c.in_ok-grade.ensures.0 (row_fails c.in_ok-form.ensures.0 (row_fails c.in_ok-n.ensures.0 (row_fails c.in_ok-fits_length.ensures.0 (passed (record {
      headed = record { bytes = bytes_of _ c.type_inv.s; edition = words.0; kind = words.1; count = rw c.in_ok-n.ensures.1.0 at c.in_ok-n.ensures.1.1; long = c.in_ok-fits_length.ensures.1 };
      form = c.in_ok-form.ensures.1.0;
      within = c.in_ok-form.ensures.1.1;
      grade = c.in_ok-grade.ensures.1.0;
      vertices = c.in_ok-n.ensures.1.0;
      edges = c.word_at-m.ensures;
      low = c.in_ok-grade.ensures.1.1;
      high = c.in_ok-grade.ensures.1.2;
    }))))))))
