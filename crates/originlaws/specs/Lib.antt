pub mod Before
pub mod Origins
