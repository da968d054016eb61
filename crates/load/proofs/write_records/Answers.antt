-- The records' text has room on the page. Assumes nothing.
use Rattle.pages.proofs.Growing.{holds}
use Rattle.load.proofs.write_records.Goals as goal

pub slice_bounds-page-end : goal.slice_bounds-page-end
slice_bounds-page-end g c =
    let filled = c.put_records-block.ensures in
    (holds filled.text filled.room).within

pub slice_bounds-write_all-end : goal.slice_bounds-write_all-end
slice_bounds-write_all-end g c =
    let filled = c.put_records-block.ensures in
    (holds filled.text filled.room).counted
