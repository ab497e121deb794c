-- `heading::heads::read_kind` meets its contract: by each outcome of its tests. Assumes nothing.
use Rattle.heading.proofs.HeadRows.{kind_stroke, kind_kerb, kind_other}
use Rattle.heading.proofs.heads.read_kind.Goals as goal

pub returns-then-kind-eq-STROKE_KIND : goal.returns-then-kind-eq-STROKE_KIND
returns-then-kind-eq-STROKE_KIND c = kind_stroke _ c.word_at-kind.ensures c.if-kind-eq-STROKE_KIND.true

pub returns-then-kind-eq-KERB_KIND : goal.returns-then-kind-eq-KERB_KIND
returns-then-kind-eq-KERB_KIND c = kind_kerb _ c.word_at-kind.ensures c.if-kind-eq-KERB_KIND.true

pub returns-else-kind-eq-KERB_KIND : goal.returns-else-kind-eq-KERB_KIND
returns-else-kind-eq-KERB_KIND c = kind_other _ c.word_at-kind.ensures c.if-kind-eq-STROKE_KIND.false c.if-kind-eq-KERB_KIND.false
