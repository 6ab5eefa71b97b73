use mathlib.Core.Path.{sym, ◌∙◌, ap}
use Rattle.lookup.specs.Lookup.{line_of, place_of}
use Rattle.lookup.proofs.Order.{located_by}
use Rattle.lookup.proofs.Laws.{located_customer, located_house}
use Rattle.lookup.proofs.lookup.Goals as goal

pub slice_bounds-result-count : goal.slice_bounds-result-count
slice_bounds-result-count c = (located_customer _ _ _ (sym (located_by _ _ _ c.locate_line-at.ensures) ∙ c.in-Customer.is)).starts

pub slice_bounds-result-start : goal.slice_bounds-result-start
slice_bounds-result-start c = (located_customer _ _ _ (sym (located_by _ _ _ c.locate_line-at.ensures) ∙ c.in-Customer.is)).starts

pub slice_bounds-result-end : goal.slice_bounds-result-end
slice_bounds-result-end c = (located_customer _ _ _ (sym (located_by _ _ _ c.locate_line-at.ensures) ∙ c.in-Customer.is)).ends

pub slice_bounds-result-count-in-House : goal.slice_bounds-result-count-in-House
slice_bounds-result-count-in-House c = (located_house _ _ _ (sym (located_by _ _ _ c.locate_line-at.ensures) ∙ c.in-House.is)).starts

pub slice_bounds-result-start-in-House : goal.slice_bounds-result-start-in-House
slice_bounds-result-start-in-House c = (located_house _ _ _ (sym (located_by _ _ _ c.locate_line-at.ensures) ∙ c.in-House.is)).starts

pub slice_bounds-result-end-in-House : goal.slice_bounds-result-end-in-House
slice_bounds-result-end-in-House c = (located_house _ _ _ (sym (located_by _ _ _ c.locate_line-at.ensures) ∙ c.in-House.is)).ends

pub returns-in-Customer : goal.returns-in-Customer
returns-in-Customer c = record { line = sym (ap (line_of _ _) (sym (located_by _ _ _ c.locate_line-at.ensures) ∙ c.in-Customer.is)); place = sym (ap (place_of _ _) (sym (located_by _ _ _ c.locate_line-at.ensures) ∙ c.in-Customer.is)) }

pub returns-in-House : goal.returns-in-House
returns-in-House c = record { line = sym (ap (line_of _ _) (sym (located_by _ _ _ c.locate_line-at.ensures) ∙ c.in-House.is)); place = sym (ap (place_of _ _) (sym (located_by _ _ _ c.locate_line-at.ensures) ∙ c.in-House.is)) }

pub returns-in-Nowhere : goal.returns-in-Nowhere
returns-in-Nowhere c = record { line = sym (ap (line_of _ _) (sym (located_by _ _ _ c.locate_line-at.ensures) ∙ c.in-Nowhere.is)); place = sym (ap (place_of _ _) (sym (located_by _ _ _ c.locate_line-at.ensures) ∙ c.in-Nowhere.is)) }
