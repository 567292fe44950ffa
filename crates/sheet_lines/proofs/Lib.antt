-- Laws about lines.
-- Laws about the lines of a section.
pub mod LineLaws
